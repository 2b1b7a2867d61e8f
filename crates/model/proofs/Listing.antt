-- How long a listing is at most: each tuple's line has its relation and its index before the values, and these take what they take in
-- the text that was read.
-- From the laws of lines, and of ids by relation.
use mathlib.Core.Path.{◌≡◌, sym, ◌∙◌, ap}
use mathlib.Core.Bool.{Bool, true, false}
use mathlib.Core.List.{List, [], ◌∷◌, ◌++◌, map, map-append, append-nil}
use Prim.Native.Nat.{ℕ, zero, suc, ◌+◌, ◌*◌, ◌≤◌}
use native.Mathlib.Nat.{zero-add}
use native.Mathlib.Numerals.{add-one}
use native.Mathlib.Omega.{arith}
use lib.ListN.{length, length-append}
use Rattle.model.specs.Limits.{max_tuples}
use Rattle.model.specs.Lists.{from, each, select, keep_if}
use Rattle.model.specs.Network.{Network, width, size, total, tuples_in, first_id, ids_of, relation_of, index_of, scope_of, tuple_of}
use Rattle.model.specs.LiveWords.{is_live}
use Rattle.model.specs.Request.{Instance, combinations_of}
use Rattle.model.specs.Text.{max_text, line_text, text_of, relation_lines, network_lines, instance_text, writable}
use Rattle.model.specs.Listing.{tuple_line, tuple_lines}
use Rattle.model.proofs.Lists.{from-append, each_append, length_from}
use Rattle.model.proofs.Network.{before-suc, before-past}
use Rattle.model.proofs.Text.{decimal-length, text_of-append}
use Rattle.model.proofs.Reading.{instance-text, writable-in}

-- two numbers of ten digits, and the byte behind each
tuple-line-length : (r x : ℕ) (vs : List ℕ) → length (line_text (r ∷ x ∷ vs)) ≤ 22 + length (line_text vs)
tuple-line-length r x [] =
    let a = decimal-length r in
    let b = decimal-length x in
    rw (length-append, length-append) (omega arith)
tuple-line-length r x (v ∷ vs) =
    let a = decimal-length r in
    let b = decimal-length x in
    rw (length-append, length-append) (omega arith)

module _ (N : Network) where
  abbrev rows : List ℕ → List ℕ
  rows gs = text_of (map (tuple_of N) gs)

  -- the lines of those ids that pass a test
  lines-length : (p : ℕ → Bool) (gs : List ℕ) → length (text_of (map (tuple_line N) (select p gs))) ≤ 22 * length gs + length (rows gs)
  unfolding text_of
  lines-length p [] = omega arith
  lines-length p (g ∷ gs) = go (lines-length p gs) (p g)
    where
      go : length (text_of (map (tuple_line N) (select p gs))) ≤ 22 * length gs + length (rows gs) → (b : Bool) → length (text_of (map (tuple_line N) (keep_if b g (select p gs)))) ≤ 22 * length (g ∷ gs) + length (rows (g ∷ gs))
      go rest true =
          let l = tuple-line-length (relation_of N g) (index_of N g) (tuple_of N g) in
          let line = length-append (line_text (tuple_line N g)) (text_of (map (tuple_line N) (select p gs))) in
          let row = length-append (line_text (tuple_of N g)) (rows gs) in
          omega (arith, rest, l, line, row)
      go rest false = rw length-append (omega arith)

  -- the tuples of the first k relations are among those relations' lines
  rows_before : (k : ℕ) → k ≤ length N.relations → length (rows (from 0 (first_id N k))) ≤ length (text_of (each (relation_lines N) (from 0 k)))
  unfolding text_of
  rows_before zero h = omega arith
  rows_before (suc k) h =
      let ids = ids_of N k in
      let earlier = from 0 (first_id N k) in
      let lines = each (relation_lines N) (from 0 k) in
      let next : from 0 (first_id N (suc k)) ≡ earlier ++ ids =
      ap (from 0) (before-suc tuples_in N.relations k (omega arith)) ∙ from-append 0 (first_id N k) (size N k) ∙ ap (λ (i : ℕ). earlier ++ from i (size N k)) (zero-add (first_id N k))
      in
      let left : rows (from 0 (first_id N (suc k))) ≡ rows earlier ++ rows ids =
      ap rows next ∙ ap text_of (map-append (tuple_of N) earlier ids) ∙ text_of-append (map (tuple_of N) earlier) (map (tuple_of N) ids)
      in
      let numbers : from 0 (suc k) ≡ from 0 k ++ (k ∷ []) = ap (from 0) (sym (add-one k)) ∙ from-append 0 k 1 ∙ ap (λ (i : ℕ). from 0 k ++ (i ∷ [])) (zero-add k) in
      let right : each (relation_lines N) (from 0 (suc k)) ≡ lines ++ relation_lines N k =
      ap (each (relation_lines N)) numbers ∙ each_append (relation_lines N) (from 0 k) (k ∷ []) ∙ ap (λ (ls : List (List ℕ)). lines ++ ls) (append-nil (relation_lines N k))
      in
      let own : length (text_of (relation_lines N k)) ≡ length (line_text (width N k ∷ size N k ∷ [])) + (length (line_text (scope_of N k)) + length (rows ids)) =
      length-append (line_text (width N k ∷ size N k ∷ [])) (text_of (scope_of N k ∷ map (tuple_of N) ids)) ∙ ap (λ (n : ℕ). length (line_text (width N k ∷ size N k ∷ [])) + n) (length-append (line_text (scope_of N k)) (rows ids))
      in
      let both = length-append (rows earlier) (rows ids) in
      let all = length-append (text_of lines) (text_of (relation_lines N k)) in
      let before = rows_before k (omega arith) in
      omega (arith, ap length left, ap (λ (ls : List (List ℕ)). length (text_of ls)) right, ap length (text_of-append lines (relation_lines N k)), both, all, before, own)

  rows_inside : length (rows (from 0 (total N))) ≤ length (text_of (network_lines N))
  rows_inside =
      let n = length N.relations in
      let e : first_id N n ≡ total N = before-past tuples_in N.relations n (omega arith) in
      let h = rows_before n (omega arith) in
      rw (sym e) h

-- the lines of the live tuples of a network that was read
pub tuple-lines-short : (I : Instance) (ws : List ℕ) → writable I ≡ true → length (text_of (tuple_lines I.network ws)) ≤ 22 * max_tuples + max_text
unfolding tuple_lines
tuple-lines-short I ws w =
    let N = I.network in
    let r = writable-in I w in
    let inside = rows_inside N in
    let lines = lines-length N (is_live ws) (from 0 (total N)) in
    let text = ap length (sym (append-nil (instance_text I)) ∙ instance-text I []) in
    omega (arith, r.0.fits.tuples, r.1, inside, lines, length_from 0 (total N), text, length-append (line_text (length N.relations ∷ I.m ∷ length (combinations_of I) ∷ [])) (text_of (network_lines N) ++ (text_of (combinations_of I) ++ [])), length-append (text_of (network_lines N)) (text_of (combinations_of I) ++ []))
