use Rattle.std.proofs.Common.{◌≡◌, ◌-◌, ◌^◌, length, length-take, length-drop, sym, ◌∙◌, arith}
use Rattle.hits_read.proofs.Readings.{read_within, Goes, goes_on, over_size}
use Rattle.hits_read.proofs.read_input.Goals as goal

pub step_after-requires : goal.step_after-requires
step_after-requires g c =
    let l = c.loop-size in
    let k : length c.read.new.buf ≡ length l.buf - l.size = c.read.auto.buf ∙ simp (length-take, length-drop) (omega arith) in
    read_within (2 ^ 64 - 1 - l.size) c.read.result c.read.new.buf (omega arith) c.read.ensures.bound

pub loop-size-smaller : goal.loop-size-smaller
loop-size-smaller g c =
    let l = c.loop-size in
    let k : length c.read.new.buf ≡ length l.buf - l.size = c.read.auto.buf ∙ simp (length-take, length-drop) (omega arith) in
    let h : Goes (length l.buf - l.size) l.size l.tries c.in-Continue.next.0 c.in-Continue.next.1 =
    goes_on _ _ _ _ _ _ (read_within (length l.buf - l.size) c.read.result c.read.new.buf (omega (arith, k)) c.read.ensures.bound) (sym c.in-Continue.is ∙ c.step_after.ensures) in
    omega (arith, h.inside, h.further, h.falls)

pub loop-size-preserved : goal.loop-size-preserved
loop-size-preserved g c =
    let l = c.loop-size in
    let k : length c.read.new.buf ≡ length l.buf - l.size = c.read.auto.buf ∙ simp (length-take, length-drop) (omega arith) in
    let h : Goes (length l.buf - l.size) l.size l.tries c.in-Continue.next.0 c.in-Continue.next.1 =
    goes_on _ _ _ _ _ _ (read_within (length l.buf - l.size) c.read.result c.read.new.buf (omega (arith, k)) c.read.ensures.bound) (sym c.in-Continue.is ∙ c.step_after.ensures) in
    (omega (arith, h.inside, h.further), omega arith)

pub returns-in-Break : goal.returns-in-Break
returns-in-Break g c =
    let e = over_size _ _ _ _ (sym c.in-Break.is ∙ c.step_after.ensures) in
    omega (arith, e)
