-- Laws of the classes of values: of values that fit, and of what a row has for a value.
-- From the laws of values that fit, and that mixed hashes lie below 2^32.
use mathlib.Core.Path.{◌≡◌, refl, sym, ◌∙◌, ap, subst}
use mathlib.Core.Bool.{Bool, true, false, cond}
use mathlib.Core.List.{List}
use mathlib.Core.Logic.{inl, inr}
use Prim.Native.Nat.{ℕ, ◌*◌, ◌/◌, ◌%◌, ◌<◌}
use native.Mathlib.Omega.{arith}
use borrow.Author.Tests.{eq-eqb, ne_eqb}
use Rattle.model.specs.Agreement.{is_any, fit}
use Rattle.model.proofs.Agreement.{fit-equal}
use Rattle.value_index.specs.Plan.{mixed}
use Rattle.value_index.proofs.ValueRows.{mixed-below}
use Rattle.bridging.specs.Bridge.{class_of, sought_row, Has, Of, Reached}

module _ (factor v : ℕ) where
  abbrev hash : ℕ
  hash = v * (factor % 65536) % 4294967296

  pub class-any : is_any v ≡ true → class_of factor v ≡ 256
  unfolding class_of
  class-any e = ap (λ (b : Bool). cond b 256 (mixed hash / 16777216)) e

  pub class-is : is_any v ≡ false → class_of factor v ≡ mixed hash / 16777216
  unfolding class_of
  class-is e = ap (λ (b : Bool). cond b 256 (mixed hash / 16777216)) e

  pub class-below : is_any v ≡ false → class_of factor v < 256
  class-below e = omega (arith, class-is e, mixed-below hash)

module _ (factor v w : ℕ) (f : fit v w ≡ true) where
  -- values that fit have a class in common
  pub class-meet : (c : ℕ) × (c < 256) × Of (class_of factor v) c × Of (class_of factor w) c
  class-meet = go (is_any v) (is_any w) refl refl
    where
      go : (b d : Bool) → is_any v ≡ b → is_any w ≡ d → (c : ℕ) × (c < 256) × Of (class_of factor v) c × Of (class_of factor w) c
      go true true p q = (0, omega arith, inl (class-any factor v p), inl (class-any factor w q))
      go true false p q = (class_of factor w, class-below factor w q, inl (class-any factor v p), inr refl)
      go false true p q = (class_of factor v, class-below factor v p, inr refl, inl (class-any factor w q))
      go false false p q = (class_of factor v, class-below factor v p, inr refl, inr (ap (class_of factor) (sym (fit-equal v w p q f))))

  -- what stands in the row of w, and in that of all, is found for v
  pub class-found : (table : List ℕ) (c : ℕ) → Has table (class_of factor w) c → Has table 257 c → Reached table (sought_row (class_of factor v)) c
  class-found table c own all = go (is_any v) (is_any w) refl refl
    where
      Row : ℕ → Type 0
      Row n = Has table n c

      go : (b d : Bool) → is_any v ≡ b → is_any w ≡ d → Reached table (sought_row (class_of factor v)) c
      go true d p q = inl (subst Row (sym (ap (λ (b : Bool). cond b 257 (class_of factor v)) (eq-eqb (class_of factor v) 256 (class-any factor v p)))) all)
      go false true p q = inr (subst Row (class-any factor w q) own)
      go false false p q =
          inl
          (subst Row (ap (class_of factor) (sym (fit-equal v w p q f)) ∙ sym (ap (λ (b : Bool). cond b 257 (class_of factor v)) (ne_eqb (class_of factor v) 256 (λ e. omega (arith, e, class-below factor v p)))))
          own)
