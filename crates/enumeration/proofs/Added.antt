-- Combinations added to a list: none, one, some and then more, and more than there may be. From the laws of lists.
use mathlib.Core.Path.{◌≡◌, refl, sym, ◌∙◌, ap, ap₂, subst}
use mathlib.Core.List.{List, [], ◌∷◌, ◌++◌, append-nil, append_assoc}
use Prim.Native.Nat.{ℕ, suc, ◌+◌, ◌*◌, ◌≤◌, ◌<◌}
use native.Mathlib.Decide.{dec_le}
use native.Mathlib.Nat.{suc-mul, mul-le-mul}
use native.Mathlib.Numerals.{add-one}
use native.Mathlib.Omega.{arith}
use lib.ListN.{length, take, drop, set, length-append, length-set, take-append-drop}
use lib.Seq.{paste, length-paste, length-take-le, take-append-add, take-append-le, take-suc-set}
use Rattle.model.specs.Limits.{max_members, max_combinations}
use Rattle.model.specs.Edges.{max_member_list}
use Rattle.model.specs.Combination.{Combination}
use Rattle.model.specs.Enumeration.{end_to_end}
use Rattle.model.proofs.Lists.{each_append}
use Rattle.enumeration.specs.Adds.{Adds}

-- a copy of n numbers begins with the first m of them
paste-front : (d : List ℕ) (at : ℕ) (s : List ℕ) (m n : ℕ) → at ≤ length d → m ≤ n → n ≤ length s → take (at + m) (paste d at s n) ≡ take at d ++ take m s
paste-front d at s m n h l k =
    let there : m ≤ length (take n s) = omega (arith, length-take-le n s k) in
    ap (λ (j : ℕ). take (j + m) (paste d at s n)) (sym (length-take-le at d h))
    ∙ ap (take (length (take at d) + m)) (append_assoc (take at d) (take n s) (drop (at + n) d))
    ∙ take-append-add (take at d) (take n s ++ drop (at + n) d) m
    ∙ ap (λ (xs : List ℕ). take at d ++ xs)
    (take-append-le m (take n s) (drop (at + n) d) there
    ∙ sym (take-append-le m (take n s) (drop n s) there)
    ∙ ap (take m) (take-append-drop n s))

module _ (m : ℕ) where
  pub adds_none : (found : ℕ) (list : List ℕ) → Adds m [] found list found list
  adds_none found list =
      record { over = λ h. omega arith; counted = λ h. omega arith; listed = λ h. sym (append-nil (take (found * m) list)); long = refl }

  -- some, and then more
  module _ {cs : List Combination} {found n : ℕ} {before list : List ℕ} (A : Adds m cs found before n list) (ds : List Combination) where
    some-over : Dec (n ≤ max_combinations) → max_combinations < n + length ds → max_combinations < found + length (cs ++ ds)
    some-over (yes h) l = let a = A.counted h in omega (arith, length-append cs ds)
    some-over (no h) l = let a = A.over (omega arith) in omega (arith, length-append cs ds)

    pub adds_then : {k : ℕ} {after : List ℕ} → Adds m ds n list k after → Adds m (cs ++ ds) found before k after
    adds_then {k} {after} B =
        record {
          over = λ h. some-over (dec_le n max_combinations) (B.over h);
          counted = λ h. let b = B.counted h in let a = A.counted (omega arith) in omega (arith, length-append cs ds);
          listed = λ h.
              let b = B.counted h in
              B.listed h
              ∙ ap (λ (xs : List ℕ). xs ++ end_to_end ds) (A.listed (omega arith))
              ∙ append_assoc (take (found * m) before) (end_to_end cs) (end_to_end ds)
              ∙ ap (λ (xs : List ℕ). take (found * m) before ++ xs) (sym (each_append (λ (c : Combination). c) cs ds));
          long = B.long ∙ A.long;
        }

    -- too many already
    pub adds-over : max_combinations < n → Adds m (cs ++ ds) found before n list
    adds-over h =
        record {
          over = λ l. some-over (dec_le n max_combinations) (omega arith);
          counted = λ l. absurd (omega arith);
          listed = λ l. absurd (omega arith);
          long = A.long;
        }

  -- one, written behind those found, and whatever stands behind it
  pub adds_one : (found n : ℕ) (list members : List ℕ) → found * m + n ≤ length list → m ≤ n → n ≤ length members → Adds m (take m members ∷ []) found list (found + 1) (paste list (found * m) members n)
  adds_one found n list members h k l =
      let e : (found + 1) * m ≡ found * m + m = ap (λ (x : ℕ). x * m) (add-one found) ∙ suc-mul found m in
      record {
        over = λ k. omega arith;
        counted = λ k. omega arith;
        listed = λ g.
            ap (λ (j : ℕ). take j (paste list (found * m) members n)) e
            ∙ paste-front list (found * m) members m n (omega arith) k l
            ∙ ap (λ (xs : List ℕ). take (found * m) list ++ xs) (sym (append-nil (take m members)));
        long = length-paste list (found * m) members n h l;
      }

-- the room for four members more behind combinations of at most four
pub place-fits : (found m : ℕ) → found < max_combinations → m ≤ max_members → found * m + max_members ≤ max_member_list
place-fits found m h l = omega (arith, mul-le-mul {n₁ = found} {m₁ = m} {n₂ = 255} {m₂ = max_members} (omega arith) l)

-- .. written there: the first k members and r
pub added-one : (found k r w : ℕ) (list members after : List ℕ) → w ≡ found → length list ≡ max_member_list → length members ≡ max_members → k < max_members → found < max_combinations → after ≡ paste list (w * (k + 1)) (set members k r) max_members → Adds (suc k) ((take k members ++ (r ∷ [])) ∷ []) found list (found + 1) after
added-one found k r w list members after e sized four few under wrote =
    let same : after ≡ paste list (found * suc k) (set members k r) max_members =
    wrote ∙ ap₂ (λ (v m : ℕ). paste list (v * m) (set members k r) max_members) e (add-one k)
    in
    subst (Adds (suc k) ((take k members ++ (r ∷ [])) ∷ []) found list (found + 1)) (sym same)
    (subst (λ (c : List ℕ). Adds (suc k) (c ∷ []) found list (found + 1) (paste list (found * suc k) (set members k r) max_members)) (take-suc-set members k r (omega arith))
    (adds_one (suc k) found max_members list (set members k r) (omega (arith, place-fits found (suc k) under few)) few (omega (arith, length-set members k r))))

-- ---- On the way

-- Some are added, and with those still to do they are the whole.
pub record Going (m : ℕ) (todo whole : List Combination) (found : ℕ) (before : List ℕ) (n : ℕ) (list : List ℕ) : Type 0 where
  pub under : n ≤ max_combinations
  pub long : length list ≡ length before
  pub on : (k : ℕ) (after : List ℕ) → Adds m todo n list k after → Adds m whole found before k after

module _ (m : ℕ) {whole : List Combination} {found : ℕ} {before : List ℕ} where
  pub going_start : found ≤ max_combinations → Going m whole whole found before found before
  going_start h = record { under = h; long = refl; on = λ k after A. A }

  pub going_end : {n : ℕ} {list : List ℕ} → Going m [] whole found before n list → Adds m whole found before n list
  going_end {n} {list} G = G.on n list (adds_none m n list)

  module _ {n : ℕ} {list : List ℕ} (cs rest : List Combination) (G : Going m (cs ++ rest) whole found before n list) {k : ℕ} {after : List ℕ} where
    pub going_next : Adds m cs n list k after → k ≤ max_combinations → Going m rest whole found before k after
    going_next A h = record { under = h; long = A.long ∙ G.long; on = λ j last B. G.on j last (adds_then m A rest B) }

    pub going-over : Adds m cs n list k after → max_combinations < k → Adds m whole found before k after
    going-over A h = G.on k after (adds-over m A rest h)

  -- one too many is left
  pub going-full : {c : Combination} {rest : List Combination} {n : ℕ} {list : List ℕ} → Going m (c ∷ rest) whole found before n list → n ≡ max_combinations → Adds m whole found before (n + 1) list
  going-full {c} {rest} {n} {list} G e =
      G.on (n + 1) list
      (record {
        over = λ h. omega arith;
        counted = λ h. absurd (omega arith);
        listed = λ h. absurd (omega arith);
        long = refl;
      })
