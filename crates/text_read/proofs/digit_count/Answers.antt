-- `digit_count` gives the place of the first byte that is no digit. Assumes nothing.
use Rattle.std.proofs.Common.{rules, tests, ◌≡◌, length, not, unwrap_or, position, ◌∙◌, ap}
use Rattle.std.specs.Char.{is_ascii_digit}
use Rattle.std.proofs.lemmas.Iterator.{YieldsList-from_slice}
use Rattle.std.proofs.lemmas.Iterator.Search.{position_from_yields_List}
use Rattle.text_read.proofs.Places.{count_is}
use Rattle.text_read.proofs.digit_count.Goals as goal

pub returns : goal.returns
returns c =
    let l = c.args.text.now in
    let e : c.position.result ≡ position (λ b. not (is_ascii_digit b)) l =
    position_from_yields_List (λ b. not (is_ascii_digit b)) _ _ c.position.result c.position.ensures.ran (YieldsList-from_slice l cc) (λ x b q k. search (rules, tests)) in
    c.unwrap_or.ensures ∙ (ap (λ o. unwrap_or o (length l)) e ∙ count_is l)
