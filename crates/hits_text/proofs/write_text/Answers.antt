-- `write_text` gives the text's length. There is room for every text. Assumes nothing.
use Rattle.std.proofs.Common.{◌≡◌, length, ap, ◌∙◌, arith}
use mathlib.Core.Path.{subst}
use Rattle.std.specs.Option.{unwrap_or}
use Rattle.hits_render.specs.Text.{Shows}
use Rattle.hits_render.proofs.Fitting.{shown_text}
use Rattle.hits_answer.specs.Hits.{hits}
use Rattle.hits_text.proofs.write_text.Goals as goal

pub returns : goal.returns
returns c =
    let a = c.args in
    let e = c.text_for.ensures.enough (omega arith) in
    let t = shown_text (subst (λ r. Shows (hits a.failed a.input.now) a.text.now c.text_for.new.text r) e c.text_for.ensures.shows) in
    let k : length c.text_for.new.text ≡ length a.text.now = c.text_for.auto.text in
    let n : c.unwrap_or.result ≡ length (hits a.failed a.input.now) = c.unwrap_or.ensures ∙ ap (λ r. unwrap_or r 0) e in
    rw n (omega (arith, t.0), t.1)
