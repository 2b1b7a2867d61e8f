-- Fields and lines are read soundly and completely: what is read is what stands in the text, and what stands in it is read.
-- From the definitions, and the laws of decimals.
use mathlib.Core.Path.{◌≡◌, refl, sym, ◌∙◌, ap, subst}
use mathlib.Core.Bool.{Bool, true, false, ◌&&◌, cond}
use mathlib.Core.Option.{Option, none, some, some-injective, none-ne-some}
use mathlib.Core.List.{List, [], ◌∷◌, ◌++◌, append_assoc}
use mathlib.Core.Logic.{◌⊎◌, inl, inr, ⊎_elim}
use Prim.Native.Nat.{ℕ, zero, suc, ◌+◌, ◌*◌, ◌-◌, ◌/◌, ◌%◌, ◌^◌, ◌≤◌, ◌<◌}
use native.Mathlib.Nat.{pow-zero, pow-succ', suc-mul}
use native.Mathlib.Omega.{arith}
use lib.Dec.{leb, ltb, eqb}
use lib.ListN.{length, take, drop, length-append, length-drop, take-append-drop}
use lib.Seq.{length-take-le}
use borrow.Author.Tests.{lt-ltb, le-leb, ltb-true, leb-true, eqb-true, ne_eqb, eq-eqb}
use Rattle.model.specs.Text.{max_field, max_code, newline, comma, nought, digits_of, decimal, line_text, text_of, small}
use Rattle.model.specs.Reading.{Read, and_then, is_digit, read_digits, read_field, read_line, read_lines}
use Rattle.model.proofs.Bools.{and_left, and_right, and_intro, not-both}
use Rattle.model.proofs.Lists.{all-of-append, pieces, pieces-cons}
use Rattle.model.proofs.Text.{digits_of-small, digits_of-large, small-or-large, digit-is_digit, decimal_digit, decimal-more, line_text-cons, text_of-cons-rest}

-- ---- One after the other

-- what was read second was read behind what was read first
pub and_then-some : {A B C : Type 0} (r : Read A) (next : A → List ℕ → Read B) {y : B × List ℕ} → and_then r next ≡ some y → ((x : A) (rest : List ℕ) → r ≡ some (x, rest) → next x rest ≡ some y → C) → C
and_then-some none next {y} e f = absurd (none-ne-some y e)
and_then-some (some r) next e f = f r.0 r.1 refl e

pub cond-some : {A : Type 0} (b : Bool) (r : Option A) {y : A} → cond b r none ≡ some y → (b ≡ true) × (r ≡ some y)
cond-some true r e = (refl, e)
cond-some false r {y} e = absurd (none-ne-some y e)

pub of_some : {A : Type 0} (P : A → Type 0) {x y : A} → some x ≡ some y → P x → P y
of_some P {x} {y} e p = subst P (some-injective x y e) p

cond_cases : {A : Type 0} (b : Bool) (x y : A) {z : A} → cond b x y ≡ z → ((b ≡ true) × (x ≡ z)) ⊎ ((b ≡ false) × (y ≡ z))
cond_cases true x y e = inl (refl, e)
cond_cases false x y e = inr (refl, e)

-- ---- Fields

-- A bound of fields: no digit is above it, and a number up to it has at most ten digits.
pub record Bound (top : ℕ) : Type 0 where
  pub low : 9 ≤ top
  pub high : top ≤ max_code

pub field_bound : Bound max_field
field_bound = record { low = omega arith; high = omega arith }

pub code-bound : Bound max_code
code-bound = record { low = omega arith; high = omega arith }

is_digit-low : (b : ℕ) → is_digit b ≡ true → nought ≤ b
is_digit-low b e = leb-true nought b (and_left (leb nought b) (leb b (nought + 9)) e)

is_digit-high : (b : ℕ) → is_digit b ≡ true → b ≤ nought + 9
is_digit-high b e = leb-true b (nought + 9) (and_right (leb nought b) (leb b (nought + 9)) e)

module _ (top : ℕ) (bound : Bound top) (end : ℕ) where
  read_digits-end : (v : ℕ) (rest : List ℕ) → read_digits top end v (end ∷ rest) ≡ some (v, rest)
  read_digits-end v rest = rw (eq-eqb end end refl)

  module _ (other : is_digit end ≡ false) where
    read_digits-digit : (v d : ℕ) (t : List ℕ) → 0 < v → d < 10 → 10 * v + d ≤ top → read_digits top end v ((nought + d) ∷ t) ≡ read_digits top end (10 * v + d) t
    read_digits-digit v d t p h m =
        let x : nought + d - nought ≡ d = omega arith in
        let go : (is_digit (nought + d) && (ltb 0 v && leb (10 * v + d) top)) ≡ true = and_intro (digit-is_digit d h) (and_intro (lt-ltb 0 v p) (le-leb (10 * v + d) top m)) in
        rw (ne_eqb (nought + d) end (λ e. not-both (digit-is_digit d h) (ap is_digit e ∙ other)), x, go)

    read_field-digit : (d : ℕ) (t : List ℕ) → d < 10 → read_field top end ((nought + d) ∷ t) ≡ read_digits top end d t
    unfolding read_field
    read_field-digit d t h =
        let x : nought + d - nought ≡ d = omega arith in
        rw (digit-is_digit d h, x)

    -- the digits of a number are read as the number
    read_field-digits : (k n : ℕ) (t : List ℕ) → n < 10 ^ suc k → n ≤ top → read_field top end (digits_of (suc k) n ++ t) ≡ read_digits top end n t
    read_field-digits zero n t h m =
        let l : n < 10 = omega (arith, rw pow-succ' at h, pow-zero 10) in
        rw (digits_of-small zero n l) (read_field-digit n t l)
    read_field-digits (suc k) n t h m =
        ⊎_elim
        (λ (l : n < 10). rw (digits_of-small (suc k) n l) (read_field-digit n t l))
        (λ (l : 10 ≤ n).
        let q : n < 10 * 10 ^ suc k = rw pow-succ' at h in
        let e : 10 * (n / 10) + n % 10 ≡ n = omega arith in
        let s = read_digits-digit (n / 10) (n % 10) t (omega arith) (omega arith) (omega arith) in
        rw (digits_of-large (suc k) n l, append_assoc)
        (read_field-digits k (n / 10) ((nought + n % 10) ∷ t) (omega arith) (omega arith) ∙ rw e at s))
        (small-or-large n)

    -- complete: a field with its end behind it is read as its number
    pub read_field-decimal : (n : ℕ) (rest : List ℕ) → n ≤ top → read_field top end (decimal n ++ (end ∷ rest)) ≡ some (n, rest)
    unfolding decimal
    read_field-decimal n rest m = read_field-digits 9 n (end ∷ rest) (omega (arith, bound.high)) m ∙ read_digits-end n rest

  -- what was read: a number in range, whose decimal and the end of the field stand before the rest
  abbrev pub FieldRead : List ℕ → ℕ × List ℕ → Type 0
  FieldRead t r = (r.0 ≤ top) × (t ≡ decimal r.0 ++ (end ∷ r.1))

  -- the field read as far as v goes on with byte b, as the number `more v b`
  abbrev more : ℕ → ℕ → ℕ
  more v b = 10 * v + (b - nought)

  abbrev goes_on : ℕ → ℕ → Bool
  goes_on v b = is_digit b && (ltb 0 v && leb (more v b) top)

  goes_on-small : (v b : ℕ) → goes_on v b ≡ true → more v b ≤ top
  goes_on-small v b e = leb-true (more v b) top (and_right (ltb 0 v) (leb (more v b) top) (and_right (is_digit b) (ltb 0 v && leb (more v b) top) e))

  goes_on-decimal : (v b : ℕ) → goes_on v b ≡ true → decimal (more v b) ≡ decimal v ++ (b ∷ [])
  goes_on-decimal v b e =
      let digit = and_left (is_digit b) (ltb 0 v && leb (more v b) top) e in
      let pos = and_left (ltb 0 v) (leb (more v b) top) (and_right (is_digit b) (ltb 0 v && leb (more v b) top) e) in
      let low = is_digit-low b digit in
      let high = is_digit-high b digit in
      let x : nought + (b - nought) ≡ b = omega arith in
      decimal-more v (b - nought) (ltb-true 0 v pos) (omega arith) (omega (arith, goes_on-small v b e, bound.high)) ∙ ap (λ (y : ℕ). decimal v ++ (y ∷ [])) x

  read_digits-sound : (v : ℕ) (t : List ℕ) {r : ℕ × List ℕ} → v ≤ top → read_digits top end v t ≡ some r → FieldRead (decimal v ++ t) r
  read_digits-sound v [] {r} m e = absurd (none-ne-some r e)
  read_digits-sound v (b ∷ bs) {r} m e =
      ⊎_elim
      (λ h.
      of_some (FieldRead (decimal v ++ (b ∷ bs))) h.1
      (m, ap (λ (x : ℕ). decimal v ++ (x ∷ bs)) (eqb-true b end h.0)))
      (λ h.
      let k = cond-some (goes_on v b) (read_digits top end (more v b) bs) h.1 in
      subst (λ (t : List ℕ). FieldRead t r)
      (ap (λ (t : List ℕ). t ++ bs) (goes_on-decimal v b k.0) ∙ append_assoc (decimal v) (b ∷ []) bs)
      (read_digits-sound (more v b) bs (goes_on-small v b k.0) k.1))
      (cond_cases (eqb b end) (some (v, bs)) (cond (goes_on v b) (read_digits top end (more v b) bs) none) e)

  -- sound
  pub read_field-sound : (t : List ℕ) {r : ℕ × List ℕ} → read_field top end t ≡ some r → FieldRead t r
  unfolding read_field
  read_field-sound [] {r} e = absurd (none-ne-some r e)
  read_field-sound (b ∷ bs) {r} e =
      let h = cond-some (is_digit b) (read_digits top end (b - nought) bs) e in
      let low = is_digit-low b h.0 in
      let high = is_digit-high b h.0 in
      let x : nought + (b - nought) ≡ b = omega arith in
      subst (λ (t : List ℕ). FieldRead (t ++ bs) r) (decimal_digit (b - nought) (omega arith) ∙ ap (λ (y : ℕ). y ∷ []) x)
      (read_digits-sound (b - nought) bs (omega (arith, bound.low)) h.1)

-- ---- Lines

-- What is read as a line of n fields up to `top`: that many numbers in range, whose line stands before the rest.
pub record LineRead (top n : ℕ) (t : List ℕ) (r : List ℕ × List ℕ) : Type 0 where
  pub some-field : 1 ≤ n
  pub count : length r.0 ≡ n
  pub fields : small top r.0 ≡ true
  pub text : t ≡ line_text r.0 ++ r.1

-- What is read as k lines of n fields each: that many numbers in range, whose lines stand before the rest.
pub record LinesRead (top k n : ℕ) (t : List ℕ) (r : List ℕ × List ℕ) : Type 0 where
  pub count : length r.0 ≡ k * n
  pub fields : small top r.0 ≡ true
  pub text : t ≡ text_of (pieces k n r.0) ++ r.1

module _ (top : ℕ) (bound : Bound top) where
  pub read_line-sound : (n : ℕ) (t : List ℕ) {r : List ℕ × List ℕ} → read_line top n t ≡ some r → LineRead top n t r
  read_line-sound zero t {r} e = absurd (none-ne-some r e)
  read_line-sound (suc zero) t e =
      and_then-some (read_field top newline t) _ e (λ v rest a e₁.
      let f = read_field-sound top bound newline t a in
      of_some (LineRead top 1 t) e₁
      (record {
        some-field = omega arith;
        count = refl;
        fields = and_intro (le-leb v top f.0) refl;
        text = f.1 ∙ sym (append_assoc (decimal v) (newline ∷ []) rest);
      }))
  read_line-sound (suc (suc n)) t e =
      and_then-some (read_field top comma t) _ e (λ v t₁ a e₁.
      and_then-some (read_line top (suc n) t₁) _ e₁ (λ vs rest b e₂.
      let f = read_field-sound top bound comma t a in
      let l = read_line-sound (suc n) t₁ b in
      of_some (LineRead top (suc (suc n)) t) e₂
      (record {
        some-field = omega arith;
        count = ap suc l.count;
        fields = and_intro (le-leb v top f.0) l.fields;
        text =
            f.1
            ∙ ap (λ (u : List ℕ). decimal v ++ (comma ∷ u)) l.text
            ∙ sym (append_assoc (decimal v) (comma ∷ line_text vs) rest)
            ∙ sym (ap (λ (u : List ℕ). u ++ rest) (line_text-cons v vs (omega (arith, l.count))));
      })))

  line-complete : (n : ℕ) (ns rest : List ℕ) → small top (n ∷ ns) ≡ true → read_line top (suc (length ns)) (line_text (n ∷ ns) ++ rest) ≡ some (n ∷ ns, rest)
  line-complete n [] rest e =
      let l = leb-true n top (and_left (leb n top) true e) in
      rw (append_assoc, read_field-decimal top bound newline refl n rest l)
  line-complete n (k ∷ ks) rest e =
      let l = leb-true n top (and_left (leb n top) (small top (k ∷ ks)) e) in
      let h = line-complete k ks rest (and_right (leb n top) (small top (k ∷ ks)) e) in
      rw (append_assoc, read_field-decimal top bound comma refl n (line_text (k ∷ ks) ++ rest) l, h)

  pub read_line-complete : (n : ℕ) (ns rest : List ℕ) → 1 ≤ n → length ns ≡ n → small top ns ≡ true → read_line top n (line_text ns ++ rest) ≡ some (ns, rest)
  read_line-complete n [] rest h l e = absurd (omega arith)
  read_line-complete n (v ∷ vs) rest h l e = ap (λ (k : ℕ). read_line top k (line_text (v ∷ vs) ++ rest)) (sym l) ∙ line-complete v vs rest e

  -- ---- Lines of equally many fields

  pub read_lines-sound : (k n : ℕ) (t : List ℕ) {r : List ℕ × List ℕ} → read_lines top k n t ≡ some r → LinesRead top k n t r
  unfolding text_of
  read_lines-sound zero n t e = of_some (LinesRead top 0 n t) e (record { count = omega arith; fields = refl; text = refl })
  read_lines-sound (suc k) n t e =
      and_then-some (read_line top n t) _ e (λ vs t₁ a e₁.
      and_then-some (read_lines top k n t₁) _ e₁ (λ us rest b e₂.
      let l = read_line-sound n t a in
      let ls = read_lines-sound k n t₁ b in
      let p = pieces-cons k n vs us l.count in
      of_some (LinesRead top (suc k) n t) e₂
      (record {
        count = length-append vs us ∙ omega (arith, l.count, ls.count, suc-mul k n);
        fields = all-of-append (λ (i : ℕ). leb i top) vs us ∙ and_intro l.fields ls.fields;
        text =
            l.text
            ∙ ap (λ (u : List ℕ). line_text vs ++ u) ls.text
            ∙ sym (text_of-cons-rest vs (pieces k n us) rest)
            ∙ sym (ap (λ (ps : List (List ℕ)). text_of ps ++ rest) p);
      })))

  module _ (n : ℕ) (pos : 1 ≤ n) where
    lines_cons : (k : ℕ) (vs us rest : List ℕ) → length vs ≡ n → small top (vs ++ us) ≡ true → (small top us ≡ true → read_lines top k n (text_of (pieces k n us) ++ rest) ≡ some (us, rest)) → read_lines top (suc k) n (text_of (pieces (suc k) n (vs ++ us)) ++ rest) ≡ some (vs ++ us, rest)
    lines_cons k vs us rest l e f =
        let g : (small top vs && small top us) ≡ true = sym (all-of-append (λ (i : ℕ). leb i top) vs us) ∙ e in
        let line = read_line-complete n vs (text_of (pieces k n us) ++ rest) pos l (and_left (small top vs) (small top us) g) in
        let lines = f (and_right (small top vs) (small top us) g) in
        rw (pieces-cons k n vs us l, text_of-cons-rest, line, lines)

    pub read_lines-complete : (k : ℕ) (ns rest : List ℕ) → length ns ≡ k * n → small top ns ≡ true → read_lines top k n (text_of (pieces k n ns) ++ rest) ≡ some (ns, rest)
    unfolding text_of
    read_lines-complete zero [] rest l e = refl
    read_lines-complete zero (v ∷ vs) rest l e = absurd (omega arith)
    read_lines-complete (suc k) ns rest l e =
        let p = take-append-drop n ns in
        let m = suc-mul k n in
        subst (λ (xs : List ℕ). read_lines top (suc k) n (text_of (pieces (suc k) n xs) ++ rest) ≡ some (xs, rest)) p
        (lines_cons k (take n ns) (drop n ns) rest (length-take-le n ns (omega arith)) (ap (small top) p ∙ e)
        (read_lines-complete k (drop n ns) rest (omega (arith, length-drop n ns))))
