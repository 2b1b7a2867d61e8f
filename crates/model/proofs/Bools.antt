-- Laws of tests joined by `and`, `or` and `not`.
use mathlib.Core.Path.{◌≡◌, refl, sym}
use mathlib.Core.Bool.{Bool, true, false, not, ◌&&◌, ◌||◌, false≢true, true≢false}
use mathlib.Core.Logic.{◌⊎◌, inl, inr}

pub and_left : (a b : Bool) → (a && b) ≡ true → a ≡ true
and_left true b e = refl
and_left false b e = e

pub and_right : (a b : Bool) → (a && b) ≡ true → b ≡ true
and_right true b e = e
and_right false b e = absurd (false≢true e)

pub and_intro : {a b : Bool} → a ≡ true → b ≡ true → (a && b) ≡ true
and_intro {a = true} {b} p q = q
and_intro {a = false} {b} p q = p

pub or_left : {a : Bool} (b : Bool) → a ≡ true → (a || b) ≡ true
or_left {a = true} b p = refl
or_left {a = false} b p = absurd (false≢true p)

pub or_right : (a : Bool) {b : Bool} → b ≡ true → (a || b) ≡ true
or_right true p = refl
or_right false p = p

pub or_cases : (a b : Bool) → (a || b) ≡ true → (a ≡ true) ⊎ (b ≡ true)
or_cases true b e = inl refl
or_cases false b e = inr e

pub or-false-left : (a b : Bool) → (a || b) ≡ false → a ≡ false
or-false-left true b e = e
or-false-left false b e = refl

pub or-false-right : (a b : Bool) → (a || b) ≡ false → b ≡ false
or-false-right true b e = absurd (true≢false e)
or-false-right false b e = e

pub or-false-intro : {a b : Bool} → a ≡ false → b ≡ false → (a || b) ≡ false
or-false-intro {a = true} {b} p q = p
or-false-intro {a = false} {b} p q = q

-- an implication as a test
pub implies-intro : (a b : Bool) → (a ≡ true → b ≡ true) → (not a || b) ≡ true
implies-intro true b f = f refl
implies-intro false b f = refl

pub implies-elim : (a b : Bool) → (not a || b) ≡ true → a ≡ true → b ≡ true
implies-elim true b e p = e
implies-elim false b e p = absurd (false≢true p)

pub iff-eq : (a b : Bool) → (a ≡ true → b ≡ true) → (b ≡ true → a ≡ true) → a ≡ b
iff-eq true b f g = sym (f refl)
iff-eq false true f g = g refl
iff-eq false false f g = refl

pub false-intro : (b : Bool) → (b ≡ true → ⊥) → b ≡ false
false-intro true h = absurd (h refl)
false-intro false h = refl

pub not-both : {a : Bool} → a ≡ true → a ≡ false → ⊥
not-both {a = true} p q = true≢false q
not-both {a = false} p q = false≢true p
