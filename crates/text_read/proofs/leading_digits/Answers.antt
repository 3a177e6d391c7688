use Rattle.std.proofs.Common.{◌≡◌, ℕ, ◌+◌, ◌-◌, ◌*◌, ◌<◌, ◌≤◌, min, true, List, get_or, length, drop, length-drop, sym, ap, subst, ◌∙◌, arith, rules}
use Rattle.model.specs.Runs.{last_bin, past_bin}
use Rattle.text_read.specs.Numbers.{is_digit, digit_count, Leads}
use Rattle.text_read.proofs.Pieces.{rest_is}
use Rattle.text_read.proofs.Values.{leading_value, digit_is, digit_within, digits_stop, digits_on, digits_end, value_grows, leading_value_law, count_le}
use Rattle.text_read.proofs.leading_digits.Goals as goal

-- the digits end here
ended : (text : List ℕ) (v i : ℕ) → v ≤ last_bin → digit_count text ≡ i + digit_count (drop i text) → min (leading_value 0 text) past_bin ≡ min (leading_value v (drop i text)) past_bin
    → (digit_count (drop i text) ≡ 0) × (leading_value v (drop i text) ≡ v) → Leads text (record { count = i; value = v })
unfolding last_bin past_bin
ended text v i h e f s =
    let c = s.0 in
    let w = s.1 in
    let z = leading_value_law 0 text in
    record { counts = omega (arith, e, c); values = omega (arith, f, w, z, h) }

pub returns-then-not-is_ascii_digit : goal.returns-then-not-is_ascii_digit
returns-then-not-is_ascii_digit c =
    let l = c.loop-i in
    ended c.args.text.now l.value l.i l.invariant.0 l.invariant.1 l.invariant.2
    (digits_stop l.value c.args.text.now l.i c.loop-i-test.true (digit_is _ ∙ (sym c.is_ascii_digit.ensures.value ∙ c.if-not-is_ascii_digit.true)))

pub overflow_mul-value : goal.overflow_mul-value
unfolding last_bin
overflow_mul-value c = search (rules, c.loop-i.invariant.0)

pub overflow_add-value : goal.overflow_add-value
unfolding last_bin
overflow_add-value c =
    let w = digit_within (get_or c.args.text.now c.loop-i.i 0) (digit_is _ ∙ (sym c.is_ascii_digit.ensures.value ∙ c.if-not-is_ascii_digit.false)) in
    let e = c.from.ensures in
    omega (arith, e, w.1)

-- the byte is a digit, and the value passes the last bin with it
large : (text : List ℕ) (v i n d : ℕ) → i < length text → is_digit (get_or text i 0) ≡ true → digit_count text ≡ i + digit_count (drop i text)
    → min (leading_value 0 text) past_bin ≡ min (leading_value v (drop i text)) past_bin → d ≡ get_or text i 0 - 48 → past_bin ≤ v * 10 + d
    → n ≡ digit_count (drop (i + 1) text) → Leads text (record { count = i + 1 + n; value = past_bin })
large text v i n d h digit e f k l q =
    let g = digits_on v text i h digit in
    let z = leading_value_law 0 text in
    let o = value_grows (v * 10 + (get_or text i 0 - 48)) (drop (i + 1) text) in
    let a = g.0 in
    let b = g.1 in
    record { counts = omega (arith, a, e, q); values = omega (arith, f, b, z, o, k, l) }

pub overflow_add-result-then-value-ge-PAST_BIN : goal.overflow_add-result-then-value-ge-PAST_BIN
overflow_add-result-then-value-ge-PAST_BIN c =
    let rest = drop (c.loop-i.i + 1) c.args.text.now in
    let q : c.digit_count.result ≡ digit_count rest = c.digit_count.ensures ∙ ap digit_count (rest_is c.args.text.now (c.loop-i.i + 1)) in
    omega (arith, q, count_le rest, length-drop (c.loop-i.i + 1) c.args.text.now)

pub returns-then-value-ge-PAST_BIN : goal.returns-then-value-ge-PAST_BIN
unfolding past_bin
returns-then-value-ge-PAST_BIN c =
    let l = c.loop-i in
    large c.args.text.now l.value l.i c.digit_count.result c.from.result c.loop-i-test.true
    (digit_is _ ∙ (sym c.is_ascii_digit.ensures.value ∙ c.if-not-is_ascii_digit.false)) l.invariant.1 l.invariant.2 c.from.ensures c.if-value-ge-PAST_BIN.true
    (c.digit_count.ensures ∙ ap digit_count (rest_is c.args.text.now (l.i + 1)))

pub loop-i-preserved : goal.loop-i-preserved
unfolding last_bin
loop-i-preserved c =
    let a = c.args in
    let l = c.loop-i in
    let g = digits_on l.value a.text.now l.i c.loop-i-test.true (digit_is _ ∙ (sym c.is_ascii_digit.ensures.value ∙ c.if-not-is_ascii_digit.false)) in
    let k = g.0 in
    let n = l.invariant.1 in
    let t = c.if-value-ge-PAST_BIN.false in (
      omega (arith, t),
      omega (arith, k, n),
      l.invariant.2
          ∙ (ap (λ x. min x past_bin) g.1 ∙ ap (λ x. min (leading_value (l.value * 10 + x) (drop (l.i + 1) a.text.now)) past_bin) (sym c.from.ensures)),
    )

pub returns : goal.returns
returns c =
    let l = c.loop-i in
    let q : l.i ≡ length c.args.text.now = omega arith in
    subst (λ n. Leads c.args.text.now (record { count = n; value = l.value })) q
    (ended c.args.text.now l.value l.i l.invariant.0 l.invariant.1 l.invariant.2 (digits_end l.value c.args.text.now l.i c.loop-i-test.false))
