-- `accept` lays the lines of the parts, and then the line `done`. Assumes nothing.
use Rattle.model.proofs.FirstChecks.{fits}
use Rattle.hits_render.proofs.Fitting.{shows_laid}
use Rattle.hits_render.proofs.Texts.{accept_laid, accept_whole}
use Rattle.hits_render.proofs.accept.Goals as goal

pub returns : goal.returns
returns c =
    let a = c.args.accepted in
    let s = shows_laid (accept_laid a c.args.certificate.now c.min-bytes.ensures c.put_parts-next.ensures c.put_done-end.ensures.laid) c.shown.ensures in
    let f = fits 256 c.args.certificate.now (λ i. (c.type_inv.certificate i).fits) in
    record { shows = s; enough = accept_whole a c.args.certificate.now f c.put_done-end.ensures.room s }
