-- Can raising m bring back a tuple? No: bigger combinations only tighten, and filtering again changes nothing (card 14). Of two change calls,
-- from nothing but their contracts.
--
--   the calls                                             their contract   what follows of two of them
--   changes::filter, withdraw, choose, and the like       Keeps            only-tightens, adding-tightens, all-connected-tighten, one-more-tightens, changes-nothing
--   wakhvosi_filter, withdraw, choose, and the like       KeepsBytes       only-tightens-bytes, changes-nothing-bytes
--
-- The sentences are the records `Tighter` and `Repeats` of the model's specs/Tighter.antt, for every change there is. On bytes they are said of
-- what the bytes hold, with what the bytes then are; proofs/Tighter.antt proves those. Tuples with any are tuples like others: nothing here
-- rests on how values fit.
use Rattle.std.specs.Prelude.{◌≡◌, true, ◌⊎◌, List, ◌++◌, ℕ, suc, ◌≤◌, ◌<◌, length, get_or}
use Rattle.std.proofs.Common.{sym, subst}
use Rattle.model.specs.Combination.{Combination, combinations}
use Rattle.model.specs.Consistency.{needed}
use Rattle.model.specs.LiveWords.{is_set}
use Rattle.model.specs.Request.{Change, filter, combinations_of, Request}
use Rattle.model.specs.Fault.{accepts}
use Rattle.model.specs.Reply.{Reply, reply, Keeps}
use Rattle.model.specs.Enumeration.{HoldsConnected}
use Rattle.model.specs.Tighter.{all_inside, LieInConnected, HaveBeside, SameStart, Tighter, Spent, again, Repeats}
use Rattle.model.proofs.Tighter.{added-inside, connected-inside, tighter}
use Rattle.model.proofs.Extension.{accepts-extended}
use Rattle.model.proofs.Repeats.{repeats}
use Rattle.wire.specs.Entries.{Bytes, entries16}
use Rattle.encoding.specs.Packed.{Outcome}
use Rattle.encoding.specs.Call.{ByteRequest, byte_request, decoded}
use Rattle.theorems.specs.ByteCalls.{decoded_outcome}

-- ---- Two accepted calls on one network, with the same live words and the same change

module _ (first second : Request) (p r : Reply) (kept : Keeps first p) (kept' : Keeps second r) (same : SameStart first second) (e : accepts first ≡ true) (e' : accepts second ≡ true) where
  -- if each combination of the first list lies inside some combination of the second, the second leaves no tuple that the first removes;
  -- the two m differ freely
  pub only-tightens : all_inside (combinations_of first.given) (combinations_of second.given) ≡ true → Tighter first p second r
  only-tightens inside =
      subst (λ (x : Reply). Tighter first x second r) (sym kept)
      (subst (Tighter first (reply first) second) (sym kept') (tighter first second same e e' inside))

  -- adding combinations only tightens
  pub adding-tightens : (more : List ℕ) → second.given.m ≡ first.given.m → second.given.members ≡ first.given.members ++ more → Tighter first p second r
  adding-tightens more m members =
      only-tightens
      (subst (λ (ds : List Combination). all_inside (combinations_of first.given) ds ≡ true) (λ i. combinations (sym m i) (sym members i))
      (added-inside first.given.m first.given.members more))

  -- filtering over all connected combinations of m leaves no tuple that filtering over those of m - 1 removes, or over any others of
  -- which each lies inside one of m
  pub all-connected-tighten : (m : ℕ) → HoldsConnected first.given.network m (combinations_of second.given) → LieInConnected first.given.network m (combinations_of first.given) → Tighter first p second r
  all-connected-tighten m holds lies =
      only-tightens (connected-inside first.given.network m (combinations_of first.given) (combinations_of second.given) holds lies)

  -- .. and each of m - 1 does lie inside one of m, where a relation outside it shares a variable with one of its members
  pub one-more-tightens : HoldsConnected first.given.network (suc first.given.m) (combinations_of second.given) → HaveBeside first.given.network (combinations_of first.given) → Tighter first p second r
  one-more-tightens holds beside =
      all-connected-tighten (suc first.given.m) holds (accepts-extended first e beside)

-- ---- A call after an accepted call, on the lists that it left, with room for the supports

-- filter, or the same change once more, changes no word, no count and no support, and removes nothing
pub changes-nothing : (q : Request) (p : Reply) → Keeps q p → accepts q ≡ true → (change : Change) → Spent q change → (supports : List ℕ) → needed q.given.network (combinations_of q.given) ≤ length supports → (r : Reply) → Keeps (again q p change supports) r → Repeats q p supports r
changes-nothing q p kept e change spent supports enough =
    subst (λ (x : Reply). (r : Reply) → Keeps (again q x change supports) r → Repeats q x supports r) (sym kept)
    (λ r kept'. subst (Repeats q (reply q) supports) (sym kept') (repeats q e change spent supports enough))

-- ---- .. on bytes

-- The lists that a call may write are lists of bytes.
pub record IsBytes (q : ByteRequest) : Type 0 where
  pub sheets : Bytes q.book.sheets
  pub marks : Bytes q.marks
  pub supports : Bytes q.supports

-- Two requests as bytes with the same sheets, questions, codes and marks, and the same change.
pub record SameBytes (first second : ByteRequest) : Type 0 where
  pub sheets : first.book.sheets ≡ second.book.sheets
  pub questions : first.book.questions ≡ second.book.questions
  pub codes : first.book.codes ≡ second.book.codes
  pub marks : first.marks ≡ second.marks
  pub change : first.change ≡ second.change

-- The second call leaves no tuple that the first removed, and no bit in any byte of the marks that the first cleared.
pub record ByteTighter (first : ByteRequest) (o : Outcome) (second : ByteRequest) (o' : Outcome) : Type 0 where
  pub held : Tighter (decoded first) (decoded_outcome o) (decoded second) (decoded_outcome o')
  pub bits : (i j : ℕ) → j < 8 → is_set (get_or o'.marks i 0) j ≡ true → is_set (get_or o.marks i 0) j ≡ true

-- the request of a change on the sheets and marks that q leaves, where o is its outcome, with these supports lent
abbrev pub again_bytes : ByteRequest → Outcome → Change → List ℕ → ByteRequest
again_bytes q o change supports =
    let B = q.book in
    byte_request (record { sheets = o.sheets; questions = B.questions; codes = B.codes; m = B.m; combinations = B.combinations }) o.marks supports change

-- filter, or the same change once more
abbrev pub SpentBytes : ByteRequest → Change → Type 0
SpentBytes q change = (change ≡ filter) ⊎ (change ≡ q.change)

-- The second call, which is lent these supports and whose outcome is o', changes nothing that q left: no byte of the sheets, no byte of the
-- marks, and no byte of the supports where it is lent those that q left. It removes nothing.
pub record ByteRepeats (q : ByteRequest) (o : Outcome) (supports : List ℕ) (o' : Outcome) : Type 0 where
  pub held : Repeats (decoded q) (decoded_outcome o) (entries16 supports) (decoded_outcome o')
  pub sheets : o'.sheets ≡ o.sheets
  pub marks : o'.marks ≡ o.marks
  pub same-supports : supports ≡ o.supports → o'.supports ≡ o.supports
