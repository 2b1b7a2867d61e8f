-- Laws of appended texts: one byte, where a text ends, one text behind another, a whole buffer, and a text written part by part.
-- From the definition alone.
use mathlib.Core.Path.{◌≡◌, refl, sym, ◌∙◌, ap, ap₂, subst}
use mathlib.Core.List.{List, [], ◌∷◌, ◌++◌, append_assoc, append-nil}
use Prim.Native.Nat.{ℕ, ◌+◌, ◌-◌, ◌≤◌, ◌<◌}
use native.Mathlib.Numerals.{add-one}
use native.Mathlib.Omega.{arith}
use lib.ListN.{length, take, drop, set, length-append, length-set, take-append-drop}
use lib.Seq.{length-take-le, take-suc-set, drop-set-lt, drop-drop}
use Rattle.printing.specs.Appended.{Appended}

pub appended-byte : (before : List ℕ) (at x : ℕ) → at < length before → Appended (x ∷ []) before at (set before at x) (at + 1)
appended-byte before at x h =
    record {
      long = length-set before at x;
      fits = omega (arith, length-set before at x);
      front = rw add-one (take-suc-set before at x h);
      rest = drop-set-lt (at + 1) before at x (omega arith);
    }

-- where the text ends
pub appended-end : {text before after : List ℕ} {at n : ℕ} → at ≤ length before → Appended text before at after n → n ≡ at + length text
appended-end {text} {before} {after} {at} {n} h a =
    let l : length (take n after) ≡ length (take at before) + length text = ap length a.front ∙ length-append (take at before) text in
    omega (arith, l, length-take-le n after a.fits, length-take-le at before h)

-- buffers that are alike from place k on are so from a later place on
drop-later : (k n : ℕ) (xs ys : List ℕ) → k ≤ n → drop k xs ≡ drop k ys → drop n xs ≡ drop n ys
drop-later k n xs ys h e =
    let q : n ≡ k + (n - k) = omega arith in
    ap (λ (i : ℕ). drop i xs) q
    ∙ sym (drop-drop (n - k) k xs)
    ∙ ap (drop (n - k)) e
    ∙ drop-drop (n - k) k ys
    ∙ ap (λ (i : ℕ). drop i ys) (sym q)

-- the buffer was as before from k on, and a text is appended there
rest_then : (before : List ℕ) {t between after : List ℕ} {k n : ℕ} → k ≤ length between → drop k between ≡ drop k before → Appended t between k after n → drop n after ≡ drop n before
rest_then before {between = between} {k = k} {n = n} h e b =
    b.rest ∙ drop-later k n between before (omega (arith, appended-end h b)) e

pub appended_then : {s t : List ℕ} {before between after : List ℕ} {at k n : ℕ} → Appended s before at between k → Appended t between k after n → Appended (s ++ t) before at after n
appended_then {s} {t} {before = before} {at = at} a b =
    record {
      long = b.long ∙ a.long;
      fits = b.fits;
      front = b.front ∙ ap (λ (u : List ℕ). u ++ t) a.front ∙ append_assoc (take at before) s t;
      rest = rest_then before a.fits a.rest b;
    }

-- the same text in another form
pub appended-same : {s t : List ℕ} {before after : List ℕ} {at n : ℕ} → s ≡ t → Appended s before at after n → Appended t before at after n
appended-same {before} {after} {at} {n} e a = subst (λ (u : List ℕ). Appended u before at after n) e a

-- a text at the front: how long it is, and the whole buffer
pub appended-whole : {text before after : List ℕ} {n : ℕ} → Appended text before 0 after n → (n ≡ length text) × (after ≡ text ++ drop n before)
appended-whole {after = after} {n = n} a =
    (omega (arith, appended-end {at = 0} (omega arith) a), sym (take-append-drop n after) ∙ ap₂ (λ (s t : List ℕ). s ++ t) a.front a.rest)

-- ---- A text written part by part

-- With the text behind the first k bytes of `now`, `whole` stands behind the first `at` bytes of `before`; from k on `now` is as before.
pub record Remains (text : List ℕ) (now : List ℕ) (k : ℕ) (whole before : List ℕ) (at : ℕ) : Type 0 where
  pub long : length now ≡ length before
  pub fits : k ≤ length now
  pub front : take k now ++ text ≡ take at before ++ whole
  pub rest : drop k now ≡ drop k before

module _ {whole before : List ℕ} {at : ℕ} where
  pub remains-all : at ≤ length before → Remains whole before at whole before at
  remains-all h = record { long = refl; fits = h; front = refl; rest = refl }

  pub remains-then : {s t now after : List ℕ} {k n : ℕ} → Remains (s ++ t) now k whole before at → Appended s now k after n → Remains t after n whole before at
  remains-then {s} {t} {now = now} {k = k} r a =
      record {
        long = a.long ∙ r.long;
        fits = a.fits;
        front = ap (λ (u : List ℕ). u ++ t) a.front ∙ append_assoc (take k now) s t ∙ r.front;
        rest = rest_then before r.fits r.rest a;
      }

  -- how long the rest is
  pub remains-length : {text now : List ℕ} {k : ℕ} → at ≤ length before → Remains text now k whole before at → k + length text ≡ at + length whole
  remains-length {text} {now} {k} h r =
      let l : length (take k now) + length text ≡ length (take at before) + length whole =
      sym (length-append (take k now) text) ∙ ap length r.front ∙ length-append (take at before) whole
      in
      omega (arith, l, length-take-le k now r.fits, length-take-le at before h)

  pub remains-same : {s t now : List ℕ} {k : ℕ} → s ≡ t → Remains s now k whole before at → Remains t now k whole before at
  remains-same {now = now} {k = k} e r = subst (λ (u : List ℕ). Remains u now k whole before at) e r

  pub remains-last : {s now after : List ℕ} {k n : ℕ} → Remains s now k whole before at → Appended s now k after n → Appended whole before at after n
  remains-last {s} {now} {after} r a =
      record { long = a.long ∙ r.long; fits = a.fits; front = a.front ∙ r.front; rest = rest_then before r.fits r.rest a }

  pub remains-none : {now : List ℕ} {k : ℕ} → Remains [] now k whole before at → Appended whole before at now k
  remains-none {now} {k} r = record { long = r.long; fits = r.fits; front = sym (append-nil (take k now)) ∙ r.front; rest = r.rest }
