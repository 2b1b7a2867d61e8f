-- `bits_of` computes the definition: mixed hashes lie below 2^32.
use Rattle.std.proofs.Common.{ℕ, ◌*◌, ◌/◌, ◌%◌, ◌^◌, ◌<◌, Bool, sym, ◌∙◌, ap, arith}
use Rattle.live.proofs.Bits.{one_shl}
use Rattle.value_index.proofs.ValueRows.{mixed-below}
use Rattle.narrowing.specs.Sieve.{all_or, bit_of, bits_of}
use Rattle.narrowing.proofs.sieve.bits_of.Goals as goal

small : (v : ℕ) → bit_of v < 64
small v = omega (arith, mixed-below v)

pub returns-then-is_any : goal.returns-then-is_any
unfolding bits_of
returns-then-is_any c = ap (λ (b : Bool). all_or b (bit_of c.args.value)) (sym (sym c.is_any.ensures ∙ c.if-is_any.true))

pub overflow_shl-result : goal.overflow_shl-result
overflow_shl-result c = omega (arith, c.mix.ensures, small c.args.value)

pub returns : goal.returns
unfolding bits_of
returns c =
    let v = c.args.value in
    ap (λ (h : ℕ). 1 * 2 ^ (h / 67108864) % 2 ^ 64) c.mix.ensures
    ∙ one_shl (bit_of v) (small v)
    ∙ ap (λ (b : Bool). all_or b (bit_of v)) (sym (sym c.is_any.ensures ∙ c.if-is_any.false))
