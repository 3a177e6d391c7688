-- `parse_bytes` parses at most as many bytes as the limit. Assumes nothing.
use Rattle.std.proofs.Common.{◌≡◌, Some, None, length-take, sym, ap, ◌∙◌, arith}
use Rattle.std.proofs.lemmas.Result.{err_from_is_err_and}
use Rattle.hits_heading.specs.Heading.{heading_is}
use Rattle.hits_parse.proofs.Parsing.{no_end, line_inside, no_heading_law, line_fault, more_refused, readable, stored}
use Rattle.hits_parse.proofs.parse_bytes.Goals as goal

pub returns-then-end-bytes : goal.returns-then-end-bytes
returns-then-end-bytes c =
    let a = c.args in
    no_end a.more a.bytes.now a.numbers.now a.ends.now (sym c.first_of-end.ensures ∙ c.if-end-bytes.true)

pub slice_bounds-read_first-end : goal.slice_bounds-read_first-end
slice_bounds-read_first-end c =
    let a = c.args in
    let h = line_inside a.more a.bytes.now a.numbers.now a.ends.now c.first_of-end.result c.first_of-end.ensures c.if-end-bytes.false in
    omega (arith, h, length-take c.first_of-end.result a.bytes.now)

pub returns-in_err-heading : goal.returns-in_err-heading
returns-in_err-heading c =
    let a = c.args in
    let q : (c.read_first.result ≡ None) × (c.in_err-heading.field-0.0 ≡ record { 0 = 1 }) = let h = c.in_err-heading.ensures.value in (grind arith, grind arith) in
    let p = err_from_is_err_and c.from_residual.result c.from_residual.ensures.1 in
    rw (p.1, p.2, q.1)
    (no_heading_law a.more a.bytes.now a.numbers.now a.ends.now c.first_of-end.result c.first_of-end.ensures c.if-end-bytes.false (sym c.read_first.ensures ∙ ap heading_is q.0))

pub overflow_add-start : goal.overflow_add-start
overflow_add-start c =
    let a = c.args in
    let h = line_inside a.more a.bytes.now a.numbers.now a.ends.now c.first_of-end.result c.first_of-end.ensures c.if-end-bytes.false in
    omega (arith, h)

pub scan_lines-requires : goal.scan_lines-requires
scan_lines-requires c =
    let a = c.args in
    let h = line_inside a.more a.bytes.now a.numbers.now a.ends.now c.first_of-end.result c.first_of-end.ensures c.if-end-bytes.false in
    (omega (arith, h), c.requires)

pub returns-in_err-counts : goal.returns-in_err-counts
returns-in_err-counts c =
    let a = c.args in
    let o : c.read_first.result ≡ Some c.in_ok-heading.heading = let h = c.in_ok-heading.ensures.value in grind arith in
    let p = err_from_is_err_and c.from_residual-in_err-counts.result c.from_residual-in_err-counts.ensures.1 in
    rw (p.1, p.2)
    (line_fault a.more a.bytes.now a.numbers.now a.ends.now c.first_of-end.result c.first_of-end.ensures c.if-end-bytes.false
    (sym c.read_first.ensures ∙ ap heading_is o) c.in_err-counts.ensures.0)

pub returns-then-more : goal.returns-then-more
returns-then-more c =
    let a = c.args in
    let o : c.read_first.result ≡ Some c.in_ok-heading.heading = let h = c.in_ok-heading.ensures.value in grind arith in
    more_refused a.more a.bytes.now a.numbers.now a.ends.now c.first_of-end.result c.first_of-end.ensures c.if-end-bytes.false
    (sym c.read_first.ensures ∙ ap heading_is o) c.in_ok-counts.ensures.0 c.if-more.true

pub write_lines-requires : goal.write_lines-requires
write_lines-requires c =
    let a = c.args in
    let o : c.read_first.result ≡ Some c.in_ok-heading.heading = let h = c.in_ok-heading.ensures.value in grind arith in
    readable a.more a.bytes.now a.numbers.now a.ends.now c.first_of-end.result c.first_of-end.ensures c.if-end-bytes.false
    (sym c.read_first.ensures ∙ ap heading_is o) c.in_ok-counts.ensures.0 c.requires

pub returns : goal.returns
returns c =
    let a = c.args in
    let o : c.read_first.result ≡ Some c.in_ok-heading.heading = let h = c.in_ok-heading.ensures.value in grind arith in
    stored a.more a.bytes.now a.numbers.now a.ends.now c.first_of-end.result c.first_of-end.ensures c.if-end-bytes.false
    (sym c.read_first.ensures ∙ ap heading_is o) c.in_ok-counts.ensures.0 c.if-more.false c.in_ok-counts.ensures.1 c.write_lines.ensures
