-- From the laws of lists, and of bits.
use Rattle.std.proofs.Common.{◌≡◌, Bool, true, false, cond, sym, ap, subst, ◌∙◌, List, ℕ, ◌+◌, ◌-◌, ◌/◌, ◌%◌, ◌^◌, ◌<◌, length, get_or, take, drop, length-drop, arith, rules}
use lib.ListN.{replicate, get_or-append}
use lib.Seq.{length-take-le, get_or-take, get_or-drop}
use borrow.Author.Tests.{eq-eqb, ne_eqb}
use Rattle.model.specs.Limits.{max_members}
use Rattle.model.specs.LiveWords.{bit, is_set}
use Rattle.model.proofs.Lists.{first-set}
use Rattle.live.proofs.Bits.{is_set-nought}
use Rattle.twins.proofs.load_sides.Goals as goal
use Rattle.twins.proofs.load_sides.Goals.{then-j-m, then-places-j-eq1, else-places-j-eq1, else-j-m}

is-set : (places j : ℕ) → places / 2 ^ j % 2 ≡ 1 → is_set places j ≡ true
unfolding is_set bit
is-set places j e = eq-eqb (places / 2 ^ j % 2) 1 e

not-set : (places j : ℕ) → (places / 2 ^ j % 2 ≡ 1 → ⊥) → is_set places j ≡ false
unfolding is_set bit
not-set places j d = ne_eqb (places / 2 ^ j % 2) 1 d

-- where no place is far
pub returns-then-places-eq0 : goal.returns-then-places-eq0
returns-then-places-eq0 c j l =
    let a = c.args in
    let from = drop a.near a.numbers.now in
    ap (λ (r : List ℕ). get_or r j 0) c.load.ensures
    ∙ get_or-append (take a.m from) (replicate (max_members - a.m) 0) 0 j (omega (arith, l, length-take-le a.m from (omega (arith, length-drop a.near a.numbers.now, c.requires.0))))
    ∙ get_or-take a.m from j 0 l
    ∙ get_or-drop a.near a.numbers.now j 0
    ∙ ap (λ (b : Bool). get_or a.numbers.now (cond b a.far a.near + j) 0) (sym (ap (λ (w : ℕ). is_set w j) c.if-places-eq0.true ∙ is_set-nought j))

-- the numbers are read one by one
pub loop-j-preserved : goal.loop-j-preserved
loop-j-preserved c =
    let a = c.args in
    let l = c.loop-j in
    let P : ℕ → ℕ → Type 0 = λ k v. k < a.m → v ≡ get_or a.numbers.now (cond (is_set a.places k) a.far a.near + k) 0 in
    let Now : List ℕ → Type 0 = λ tuples. (k : ℕ) → k < l.j + 1 → P k (get_or tuples k 0) in
    elim c.if-j-m.branch [
      | then-j-m w ↦
          let start : w.if-places-j-eq1.start ≡ cond (is_set a.places l.j) a.far a.near =
          elim w.if-places-j-eq1.branch [
            | then-places-j-eq1 v ↦ v.start-is ∙ ap (λ (b : Bool). cond b a.far a.near) (sym (is-set a.places l.j v.if-places-j-eq1.true))
            | else-places-j-eq1 v ↦ v.start-is ∙ ap (λ (b : Bool). cond b a.far a.near) (sym (not-set a.places l.j v.if-places-j-eq1.false))
          ] in
          let long : length l.tuple-items ≡ 4 = search rules in
          subst Now (sym w.tuple-items-is) (first-set P l.tuple-items l.j _ (omega arith) l.invariant (λ _. ap (λ (k : ℕ). get_or a.numbers.now (k + l.j) 0) start))
      | else-j-m w ↦
          let long : length l.tuple-items ≡ 4 = search rules in
          subst Now (sym w.tuple-items-is) (first-set P l.tuple-items l.j _ (omega arith) l.invariant (λ m. absurd (omega (arith, m, w.if-j-m.false))))
    ]
