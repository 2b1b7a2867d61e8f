-- How an instance is read from its heading, its relations and its combinations, and that nothing stands behind it.
-- From the definitions of `read_heading`, `read_instance` and `read`.
use mathlib.Core.Path.{◌≡◌, refl, sym, ap, ◌∙◌}
use mathlib.Core.Bool.{Bool, true, false, ◌&&◌, cond}
use mathlib.Core.Option.{none, some}
use mathlib.Core.List.{List, []}
use Prim.Native.Nat.{ℕ, ◌+◌, ◌*◌, ◌≤◌, ◌<◌}
use native.Mathlib.Nat.{zero-add}
use native.Mathlib.Omega.{arith}
use borrow.Author.Tests.{le-leb, lt-leb, leb-true}
use lib.Dec.{leb}
use lib.ListN.{length, get_or, take, drop, drop_of_length-le}
use lib.Seq.{drop-cons, length-take-le}
use Rattle.model.specs.Limits.{max_relations, max_tuples, min_members, max_members, max_combinations}
use Rattle.model.specs.Network.{Network}
use Rattle.model.specs.Request.{Instance}
use Rattle.model.specs.Fault.{within}
use Rattle.model.specs.Text.{max_field, max_text}
use Rattle.model.specs.Reading.{Read, and_then, read_line, read_lines, read_relations, read_instance, whole, read}
use Rattle.model.proofs.Bools.{and_left, and_right, not-both}
use Rattle.layout.specs.declared.Shape.{Shape}
use Rattle.layout.specs.Shape.{instance_of}
use Rattle.reading.specs.declared.Book.{Book}
use Rattle.reading.specs.Parts.{found_at, map_read, behind, IsBlankBehind, Numbers, read_heading}
use Rattle.reading.specs.Book.{book_of, found, Filled, Standing}
use Rattle.reading.proofs.Found.{found-at, behind-nil, map_found, passed-test}

-- ---- The heading

abbrev allowed : List ℕ → Bool
allowed head =
    within 1 max_relations (get_or head 0 0) && (within min_members max_members (get_or head 1 0) && leb (get_or head 2 0) max_combinations)

abbrev numbers_of : List ℕ → Numbers
numbers_of head = record { relations = get_or head 0 0; m = get_or head 1 0; combinations = get_or head 2 0 }

module _ (T : List ℕ) where
  pub heading-none : read_line max_field 3 T ≡ none → read_heading T ≡ none
  unfolding read_heading
  heading-none e = rw e

  module _ (head rest : List ℕ) (e : read_line max_field 3 T ≡ some (head, rest)) (r m k : ℕ) (p : r ≡ get_or head 0 0) (q : m ≡ get_or head 1 0) (s : k ≡ get_or head 2 0) where
    heading-read : read_heading T ≡ cond (within 1 max_relations r && (within min_members max_members m && leb k max_combinations)) (some (record { relations = r; m = m; combinations = k }, rest)) none
    unfolding read_heading
    heading-read = rw (e, p, q, s)

    pub heading-relations : within 1 max_relations r ≡ false → read_heading T ≡ none
    heading-relations h = heading-read ∙ rw h

    module _ (h : within 1 max_relations r ≡ true) where
      pub heading-m : within min_members max_members m ≡ false → read_heading T ≡ none
      heading-m l = heading-read ∙ rw (h, l)

      module _ (l : within min_members max_members m ≡ true) where
        pub heading-many : max_combinations < k → read_heading T ≡ none
        heading-many c = heading-read ∙ rw (h, l, lt-leb k max_combinations c)

        pub heading-proper : k ≤ max_combinations → read_heading T ≡ some (record { relations = r; m = m; combinations = k }, rest)
        heading-proper c = heading-read ∙ rw (h, l, le-leb k max_combinations c)

-- a heading that was read has members
pub heading-members : (T : List ℕ) (H : Numbers) (rest : List ℕ) → read_heading T ≡ some (H, rest) → 0 < H.m
unfolding read_heading
heading-members T H rest h =
    let s = passed-test allowed numbers_of (read_line max_field 3 T) H rest h in
    let m : get_or s.0 1 0 ≡ H.m = ap (λ (Q : Numbers). Q.m) s.2 in
    let sized = and_right (within 1 max_relations (get_or s.0 0 0)) (within min_members max_members (get_or s.0 1 0) && leb (get_or s.0 2 0) max_combinations) s.1 in
    let least : 2 ≤ get_or s.0 1 0 = leb-true 2 (get_or s.0 1 0) (and_left _ _ (and_left _ _ sized)) in
    omega arith

-- ---- The instance

abbrev pub instance_with : Numbers → Network → List ℕ → Instance
instance_with H N members = record { network = N; m = H.m; members = members }

module _ (T : List ℕ) where
  abbrev Parted : Type 0
  Parted = read_instance T ≡ and_then (read_heading T) (λ (H : Numbers) (rest : List ℕ). and_then (read_relations H.relations max_tuples rest) (λ (N : Network) (rest' : List ℕ). map_read (instance_with H N) (read_lines max_field H.combinations H.m rest')))

  parted-heading : (head rest : List ℕ) → read_line max_field 3 T ≡ some (head, rest) → (b : Bool) → allowed head ≡ b → Parted
  unfolding read_instance read_heading
  parted-heading head rest e false q = rw (e, q)
  parted-heading head rest e true q = rw (e, q)

  parted-line : (L : Read (List ℕ)) → read_line max_field 3 T ≡ L → Parted
  unfolding read_instance read_heading
  parted-line none e = rw e
  parted-line (some r) e = parted-heading r.0 r.1 e (allowed r.0) refl

  parted : Parted
  parted = parted-line (read_line max_field 3 T) refl

  pub instance-none : read_heading T ≡ none → read_instance T ≡ none
  instance-none e = parted ∙ rw e

  module _ (H : Numbers) (rest : List ℕ) (e : read_heading T ≡ some (H, rest)) where
    pub instance-broken : read_relations H.relations max_tuples rest ≡ none → read_instance T ≡ none
    instance-broken h = parted ∙ rw (e, h)

    instance-listed : (N : Network) (rest' : List ℕ) → read_relations H.relations max_tuples rest ≡ some (N, rest') → read_instance T ≡ map_read (instance_with H N) (read_lines max_field H.combinations H.m rest')
    instance-listed N rest' h = parted ∙ rw (e, h)

    -- once the members stand in their list
    pub instance-found : (N : Network) (rest' t ms : List ℕ) (next : ℕ) → read_relations H.relations max_tuples rest ≡ some (N, rest')
        → found_at next (take (0 + H.combinations * H.m) ms) t ≡ behind [] (read_lines max_field H.combinations H.m rest') → read_instance T ≡ found_at next (instance_with H N (take (H.combinations * H.m) ms)) t
    instance-found N rest' t ms next h l =
        let n : 0 + H.combinations * H.m ≡ H.combinations * H.m = zero-add (H.combinations * H.m) in
        instance-listed N rest' h
        ∙ ap (map_read (instance_with H N)) (sym (ap (λ (i : ℕ). found_at next (take i ms) t) (sym n) ∙ l ∙ behind-nil (read_lines max_field H.combinations H.m rest')))
        ∙ map_found (instance_with H N) t next (take (H.combinations * H.m) ms)

-- ---- The text

module _ (t : List ℕ) where
  pub read-long : max_text < length t → read t ≡ none
  unfolding read
  read-long h = rw (lt-leb (length t) max_text h)

  module _ (h : length t ≤ max_text) where
    read_whole : read t ≡ whole (read_instance t)
    unfolding read
    read_whole = rw (le-leb (length t) max_text h)

    pub read_none : read_instance t ≡ none → read t ≡ none
    read_none e = read_whole ∙ ap whole e

    module _ (I : Instance) (next : ℕ) (e : read_instance t ≡ found_at next I t) where
      -- something stands behind the instance
      pub read_more : (next ≡ 0 → ⊥) → next < length t → read t ≡ none
      read_more n l =
          let rest = drop-cons t next 0 l in
          read_whole ∙ ap whole (e ∙ found-at t next I n ∙ ap (λ (bs : List ℕ). some (I, bs)) rest)

      pub read_some : (next ≡ 0 → ⊥) → length t ≤ next → read t ≡ some I
      read_some n l = read_whole ∙ ap whole (e ∙ found-at t next I n ∙ ap (λ (bs : List ℕ). some (I, bs)) (drop_of_length-le t l))

-- ---- What stands in the lists

pub filled : (ok : Bool) (n : ℕ) (xs₀ xs : List ℕ) → n ≤ length xs → length xs ≡ length xs₀ → (ok ≡ true → drop n xs ≡ drop n xs₀) → Filled ok n xs₀ xs
filled ok n xs₀ xs h l kept = record { within = h; count = sym (length-take-le n xs h); long = l; rest = kept }

module _ (t : List ℕ) (vs₀ vs xs₀ xs ms₀ ms : List ℕ) where
  -- nothing was read
  pub stands-none : (b : Book) → read t ≡ none → b ≡ book_of none → length vs ≡ length vs₀ → length xs ≡ length xs₀ → length ms ≡ length ms₀ → Standing t b vs₀ vs xs₀ xs ms₀ ms
  stands-none b e h lv lx lm =
      let refused : b.ok ≡ false = ap (λ (c : Book). c.ok) h in
      record {
        given = h ∙ ap book_of (sym e);
        is_read = ap (λ (c : Book). found c vs xs ms) h ∙ sym e;
        variables-filled = filled b.ok b.variables vs₀ vs (omega (arith, ap (λ (c : Book). c.variables) h)) lv (λ k. absurd (not-both k refused));
        values-filled = filled b.ok b.values xs₀ xs (omega (arith, ap (λ (c : Book). c.values) h)) lx (λ k. absurd (not-both k refused));
        members-filled = filled b.ok b.members ms₀ ms (omega (arith, ap (λ (c : Book). c.members) h)) lm (λ k. absurd (not-both k refused));
      }

  -- an instance was read
  pub stands-some : (S : Shape) (m v x k : ℕ) → IsBlankBehind S → read t ≡ some (instance_of S (take v vs) (take x xs) m (take k ms))
      → Filled true v vs₀ vs → Filled true x xs₀ xs → Filled true k ms₀ ms → Standing t (record { ok = true; shape = S; m = m; variables = v; values = x; members = k }) vs₀ vs xs₀ xs ms₀ ms
  stands-some S m v x k blank e fv fx fk =
      let I : Instance = instance_of S (take v vs) (take x xs) m (take k ms) in
      let whole-book : record { ok = true; shape = S; m = m; variables = v; values = x; members = k } ≡ book_of (some I) = λ j. record { ok = true; shape = blank j; m = m; variables = fv.count j; values = fx.count j; members = fk.count j } in
      record { given = whole-book ∙ ap book_of (sym e); is_read = sym e; variables-filled = fv; values-filled = fx; members-filled = fk }
