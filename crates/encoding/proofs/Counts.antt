-- The live counts in the records' bytes: read one after the other, and written, which leaves the records as they are.
-- From the laws of entries, and of parts of lists.
use mathlib.Core.Path.{◌≡◌, refl, sym, ap, ap₂, ◌∙◌}
use mathlib.Core.List.{List, [], ◌∷◌, ◌++◌, map, append_assoc}
use Prim.Native.Nat.{ℕ, zero, suc, ◌+◌, ◌*◌, ◌/◌, ◌≤◌, ◌<◌, min}
use native.Mathlib.Nat.{zero-add, not-suc-le-zero}
use native.Mathlib.Numerals.{add-one}
use native.Mathlib.Omega.{arith}
use lib.ListN.{length, take, drop, get_or, set, replicate, length-append, length-drop, length-map, take-append-drop}
use lib.Seq.{length-take-le, take-add, take-take, take_at, drop_at, drop-drop, take-append-le, take-append-add, drop-append-add, ext_get_or}
use Rattle.model.specs.Limits.{max_relations}
use Rattle.model.specs.Lists.{from}
use Rattle.model.proofs.Lists.{length_from, get_d-map-from}
use Rattle.layout.specs.Shape.{padded}
use Rattle.wire.specs.Entries.{Bytes, value, bytes_of, entry_at}
use Rattle.wire.proofs.Entries.{value-bytes_of, bytes_of-value, take-bytes, drop-bytes, append-bytes, bytes-bytes, drop-take, put}
use Rattle.encoding.specs.Records.{records, counts_in, with_counts}
use Rattle.encoding.proofs.Records.{padded-next, padded-front, padded-take}

-- ---- Read

module _ (bs : List ℕ) where
  pub counts-length : length (counts_in bs) ≡ length bs / 6
  unfolding counts_in
  counts-length = length-map (from 0 (length bs / 6)) (λ (r : ℕ). entry_at 2 bs (3 * r + 2)) ∙ length_from 0 (length bs / 6)

  counts_each : (r : ℕ) → r < length bs / 6 → get_or (counts_in bs) r 0 ≡ entry_at 2 bs (3 * r + 2)
  unfolding counts_in
  counts_each r h =
      get_d-map-from (λ (s : ℕ). entry_at 2 bs (3 * s + 2)) 0 (length bs / 6) r 0 h ∙ ap (λ (s : ℕ). entry_at 2 bs (3 * s + 2)) (zero-add r)

  -- the array holds the counts of the first r records, and noughts behind them
  abbrev pub Read : ℕ → List ℕ → Type 0
  Read r counts = counts ≡ padded max_relations (take r (counts_in bs))

  pub read-start : Read 0 (replicate max_relations 0)
  unfolding padded
  read-start = refl

  pub read_next : (r : ℕ) (counts : List ℕ) → Read r counts → r < max_relations → r < length bs / 6 → Read (r + 1) (set counts r (entry_at 2 bs (3 * r + 2)))
  read_next r counts e h l =
      ap (λ (ns : List ℕ). set ns r (entry_at 2 bs (3 * r + 2))) e
      ∙ padded-next max_relations r (entry_at 2 bs (3 * r + 2)) (counts_in bs) h (omega (arith, counts-length)) (counts_each r l)

  pub read-end : (r : ℕ) (counts : List ℕ) → Read r counts → min (length bs / 6) max_relations ≤ r → counts ≡ padded max_relations (counts_in bs)
  read-end r counts e h = e ∙ padded-front max_relations r (counts_in bs) (rw counts-length h)

  -- all of them, where there is room
  pub read_all : (n : ℕ) (counts : List ℕ) → counts ≡ padded max_relations (counts_in bs) → n ≡ length bs / 6 → n ≤ max_relations → take n counts ≡ counts_in bs
  read_all n counts e long few =
      ap₂ (λ (k : ℕ) (ns : List ℕ). take k ns) (long ∙ sym counts-length) e ∙ padded-take max_relations (counts_in bs) (omega (arith, long, counts-length))

-- ---- Written: the first record

-- its six bytes
abbrev front : List ℕ → ℕ → List ℕ
front bs n = take 4 bs ++ bytes_of 2 n

module _ (bs : List ℕ) (n : ℕ) (h : 6 ≤ length bs) where
  front_length : length (front bs n) ≡ 6
  front_length = length-append (take 4 bs) (bytes_of 2 n) ∙ ap (λ (k : ℕ). k + 2) (length-take-le 4 bs (omega arith))

  -- its first four bytes are as they were
  front-early : (rest : List ℕ) (i : ℕ) → i + 2 ≤ 4 → take 2 (drop i (front bs n ++ rest)) ≡ take 2 (drop i bs)
  front-early rest i l =
      sym (drop-take i 2 (front bs n ++ rest))
      ∙ ap (drop i)
      (take-append-le (i + 2) (front bs n) rest (omega (arith, front_length))
      ∙ take-append-le (i + 2) (take 4 bs) (bytes_of 2 n) (omega (arith, length-take-le 4 bs (omega arith)))
      ∙ take-take (i + 2) 4 bs l)
      ∙ drop-take i 2 bs

  -- the other two are the count
  front-late : (rest : List ℕ) → take 2 (drop 4 (front bs n ++ rest)) ≡ bytes_of 2 n
  front-late rest =
      ap (λ (l : List ℕ). take 2 (drop 4 l)) (append_assoc (take 4 bs) (bytes_of 2 n) rest)
      ∙ ap (take 2) (drop_at (take 4 bs) (bytes_of 2 n ++ rest) 4 (length-take-le 4 bs (omega arith)))

-- an entry of a later record
entry-later : (i r j : ℕ) (bs : List ℕ) → i ≡ 3 * suc r + j → entry_at 2 bs i ≡ entry_at 2 (drop 6 bs) (3 * r + j)
unfolding entry_at
entry-later i r j bs e =
    let at : 2 * i ≡ 6 + 2 * (3 * r + j) = omega (arith, e) in
    ap (λ (k : ℕ). value (take 2 (drop k bs))) at ∙ ap (λ (l : List ℕ). value (take 2 l)) (sym (drop-drop (2 * (3 * r + j)) 6 bs))

-- ---- All of them

pub written-length : (bs counts : List ℕ) → 6 * length counts ≤ length bs → length (with_counts bs counts) ≡ length bs
written-length bs [] h = refl
written-length bs (n ∷ counts) h =
    let rest = with_counts (drop 6 bs) counts in
    let behind = written-length (drop 6 bs) counts (omega (arith, length-drop 6 bs)) in
    length-append (front bs n) rest ∙ omega (arith, front_length bs n (omega arith), behind, length-drop 6 bs)

pub written-bytes : (bs counts : List ℕ) → Bytes bs → Bytes (with_counts bs counts)
written-bytes bs [] b = b
written-bytes bs (n ∷ counts) b =
    append-bytes (front bs n) (with_counts (drop 6 bs) counts) (append-bytes (take 4 bs) (bytes_of 2 n) (take-bytes 4 bs b) (bytes-bytes 2 (n ∷ [])))
    (written-bytes (drop 6 bs) counts (drop-bytes 6 bs b))

-- widths and tuple counts stay
entry-stays : (i r j : ℕ) (bs counts : List ℕ) → i ≡ 3 * r + j → j ≤ 1 → 6 * length counts ≤ length bs → entry_at 2 (with_counts bs counts) i ≡ entry_at 2 bs i
unfolding entry_at
entry-stays i r j bs [] e l h = refl
entry-stays i zero j bs (n ∷ counts) e l h = ap value (front-early bs n (omega arith) (with_counts (drop 6 bs) counts) (2 * i) (omega (arith, e)))
entry-stays i (suc r) j bs (n ∷ counts) e l h =
    let rest = with_counts (drop 6 bs) counts in
    entry-later i r j (front bs n ++ rest) e
    ∙ ap (λ (d : List ℕ). entry_at 2 d (3 * r + j)) (drop_at (front bs n) rest 6 (front_length bs n (omega arith)))
    ∙ entry-stays (3 * r + j) r j (drop 6 bs) counts refl l (omega (arith, length-drop 6 bs))
    ∙ sym (entry-later i r j bs e)

-- so that the records are the same
pub written-records : (bs counts : List ℕ) → 6 * length counts ≤ length bs → records (with_counts bs counts) ≡ records bs
unfolding records
written-records bs counts h =
    (λ i. map (λ (r : ℕ). record { width = entry-stays (3 * r) r 0 bs counts (omega arith) (omega arith) h i; tuples = entry-stays (3 * r + 1) r 1 bs counts refl (omega arith) h i }) (from 0 (written-length bs counts h i / 6)))

-- each count is the one written
entry-written : (r : ℕ) (bs counts : List ℕ) → r < length counts → 6 * length counts ≤ length bs → ((i : ℕ) → get_or counts i 0 < 65536) → entry_at 2 (with_counts bs counts) (3 * r + 2) ≡ get_or counts r 0
unfolding entry_at
entry-written r bs [] l h small = absurd (not-suc-le-zero l)
entry-written zero bs (n ∷ counts) l h small = ap value (front-late bs n (omega arith) (with_counts (drop 6 bs) counts)) ∙ value-bytes_of 2 n (small 0)
entry-written (suc r) bs (n ∷ counts) l h small =
    let rest = with_counts (drop 6 bs) counts in
    entry-later (3 * suc r + 2) r 2 (front bs n ++ rest) refl
    ∙ ap (λ (d : List ℕ). entry_at 2 d (3 * r + 2)) (drop_at (front bs n) rest 6 (front_length bs n (omega arith)))
    ∙ entry-written r (drop 6 bs) counts (omega arith) (omega (arith, length-drop 6 bs)) (λ i. small (suc i))

pub written-counts : (bs counts : List ℕ) → length bs ≡ 6 * length counts → ((i : ℕ) → get_or counts i 0 < 65536) → counts_in (with_counts bs counts) ≡ counts
written-counts bs counts e small =
    let new = with_counts bs counts in
    let long : length new / 6 ≡ length counts = omega (arith, written-length bs counts (omega arith)) in
    ext_get_or 0 (counts_in new) counts (counts-length new ∙ long)
    (λ r h. counts_each new r (omega (arith, counts-length new)) ∙ entry-written r bs counts (omega (arith, counts-length new, long)) (omega arith) small)

-- written over others, they are as if written alone
pub written-again : (bs counts tally : List ℕ) → length counts ≡ length tally → 6 * length tally ≤ length bs → with_counts (with_counts bs counts) tally ≡ with_counts bs tally
written-again bs [] [] e h = refl
written-again bs [] (n ∷ tally) e h = let none : suc (length tally) ≤ 0 = omega (arith, e) in absurd (not-suc-le-zero none)
written-again bs (k ∷ counts) [] e h = let none : suc (length counts) ≤ 0 = omega (arith, e) in absurd (not-suc-le-zero none)
written-again bs (k ∷ counts) (n ∷ tally) e h =
    let rest = with_counts (drop 6 bs) counts in
    let early = ap (take 4) (append_assoc (take 4 bs) (bytes_of 2 k) rest) ∙ take_at (take 4 bs) (bytes_of 2 k ++ rest) 4 (length-take-le 4 bs (omega arith)) in
    let behind = drop_at (front bs k) rest 6 (front_length bs k (omega arith)) in
    let again = written-again (drop 6 bs) counts tally (omega (arith, e)) (omega (arith, length-drop 6 bs)) in
    (λ i. early i ++ bytes_of 2 n ++ with_counts (behind i) tally) ∙ ap (λ (l : List ℕ). take 4 bs ++ bytes_of 2 n ++ l) again

-- those that the records hold change nothing
held_same : (bs counts : List ℕ) → Bytes bs → 6 * length counts ≤ length bs → ((r : ℕ) → r < length counts → get_or counts r 0 ≡ entry_at 2 bs (3 * r + 2)) → with_counts bs counts ≡ bs
unfolding entry_at
held_same bs [] b h are = refl
held_same bs (n ∷ counts) b h are =
    let late = take 2 (drop 4 bs) in
    let long : length late ≡ 2 = length-take-le 2 (drop 4 bs) (omega (arith, length-drop 4 bs)) in
    let same : bytes_of 2 n ≡ late = ap (bytes_of 2) (are 0 (omega arith)) ∙ (rw long at (bytes_of-value late (take-bytes 2 (drop 4 bs) (drop-bytes 4 bs b)))) in
    let rest = held_same (drop 6 bs) counts (drop-bytes 6 bs b) (omega (arith, length-drop 6 bs)) (λ r l. are (suc r) (omega arith) ∙ entry-later (3 * suc r + 2) r 2 bs refl) in
    (λ i. take 4 bs ++ same i ++ rest i) ∙ ap (λ (l : List ℕ). l ++ drop 6 bs) (sym (take-add 4 2 bs)) ∙ take-append-drop 6 bs

pub written_held : (bs : List ℕ) → Bytes bs → with_counts bs (counts_in bs) ≡ bs
written_held bs b =
    held_same bs (counts_in bs) b (omega (arith, counts-length bs)) (λ r l. counts_each bs r (omega (arith, counts-length bs)))

-- ---- One after the other

-- a count of a later record is written behind the bytes of the first
put-later : (r x : ℕ) (p q : List ℕ) → length p ≡ 6 → put 2 (3 * suc r + 2) x (p ++ q) ≡ p ++ put 2 (3 * r + 2) x q
put-later r x p q e =
    let at : 2 * (3 * suc r + 2) ≡ length p + 2 * (3 * r + 2) = omega (arith, e) in
    let after : 2 * (3 * suc r + 2) + 2 ≡ length p + (2 * (3 * r + 2) + 2) = omega (arith, e) in
    let before = take (2 * (3 * r + 2)) q in
    let behind = drop (2 * (3 * r + 2) + 2) q in
    (λ i. take (at i) (p ++ q) ++ bytes_of 2 x ++ drop (after i) (p ++ q))
    ∙ (λ i. take-append-add p q (2 * (3 * r + 2)) i ++ bytes_of 2 x ++ drop-append-add p q (2 * (3 * r + 2) + 2) i)
    ∙ ap (λ (l : List ℕ). l ++ behind) (append_assoc p before (bytes_of 2 x))
    ∙ append_assoc p (before ++ bytes_of 2 x) behind

-- one count more
pub put_count : (r : ℕ) (bs counts : List ℕ) → r < length counts → 6 * length counts ≤ length bs → put 2 (3 * r + 2) (get_or counts r 0) (with_counts bs (take r counts)) ≡ with_counts bs (take (r + 1) counts)
put_count r bs [] l h = absurd (not-suc-le-zero l)
put_count zero bs (n ∷ counts) l h = refl
put_count (suc r) bs (n ∷ counts) l h =
    put-later r (get_or counts r 0) (front bs n) (with_counts (drop 6 bs) (take r counts)) (front_length bs n (omega arith))
    ∙ ap (λ (rest : List ℕ). front bs n ++ rest) (put_count r (drop 6 bs) counts (omega arith) (omega (arith, length-drop 6 bs)))
    ∙ rw (add-one, add-one)
