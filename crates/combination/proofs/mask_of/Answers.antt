use Rattle.std.proofs.Common.{◌≡◌, ℕ, Bool, List, ◌+◌, ◌*◌, ◌^◌, ◌%◌, ◌<◌, length, drop, get_or, ltb, eqb, sym, ap, ◌∙◌, drop-cons, add-one, arith}
use mathlib.Core.Bool.{◌||◌, or_assoc}
use lib.Bits.{bit_or}
use borrow.Author.Tests.{ltb-true}
use Rattle.model.specs.Limits.{variable_count}
use Rattle.model.specs.Lists.{elem}
use Rattle.model.specs.LiveWords.{is_set}
use Rattle.model.proofs.Lists.{all_get_d}
use Rattle.layout.proofs.StdLists.{eqb-turned}
use Rattle.live.proofs.Bits.{is_set-or, is_set-pow, is_set-high, one_shl}
use Rattle.combination.proofs.mask_of.Goals as goal

-- the variable of column i is set, and passed
added : (scope : List ℕ) (w i x : ℕ) → i < length scope → get_or scope i 0 < variable_count → (is_set (bit_or w (1 * 2 ^ get_or scope i 0 % 2 ^ 64)) x || elem x (drop (i + 1) scope)) ≡ (is_set w x || elem x (drop i scope))
added scope w i x h l =
    let k = get_or scope i 0 in
    let rest = elem x (drop (i + 1) scope) in
    let e : elem x (drop i scope) ≡ (eqb x k || rest) = rw (drop-cons scope i 0 h, add-one) in
    ap (λ (v : ℕ). is_set (bit_or w v) x || rest) (one_shl k l)
    ∙ ap (λ (b : Bool). b || rest) (is_set-or w (2 ^ k) x ∙ ap (λ (b : Bool). is_set w x || b) (is_set-pow k x ∙ eqb-turned k x))
    ∙ or_assoc (is_set w x) (eqb x k) rest
    ∙ ap (λ (b : Bool). is_set w x || b) (sym e)

pub loop-x-init : goal.loop-x-init
loop-x-init c = λ x. ap (λ (b : Bool). b || elem x c.args.scope.now) (is_set-high 0 0 x (omega arith) (omega arith))

pub loop-x-preserved : goal.loop-x-preserved
loop-x-preserved c =
    let scope = c.args.scope.now in
    let i = c.loop-x.x-index in
    let low = ltb-true (get_or scope i 0) variable_count (all_get_d (λ (x : ℕ). ltb x variable_count) scope i 0 c.requires (omega arith)) in
    λ x. added scope c.loop-x.mask i x (omega arith) low ∙ c.loop-x.invariant x
