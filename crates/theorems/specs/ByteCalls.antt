-- Lists of change calls from C on one book's bytes and the bytes of its marks, and what is promised of them.
--
-- The promises are those of the model, of what the bytes hold: a list of bytes is read as words, numbers or counts by `entries64`,
-- `entries16` and `counts_in`, and a packed answer by `unpacked`.
use Rattle.std.specs.Prelude.{◌≡◌, Bool, true, false, not, cond, ◌⊎◌, ℕ, ◌+◌, ◌*◌, eqb, length, drop}
use Rattle.std.proofs.Math.Option.{Option, none, some}
use mathlib.Core.List.{List, [], ◌∷◌, Memᴰ}
use Rattle.model.specs.Lists.{any, empty, Permutation}
use Rattle.model.specs.Agreement.{Cell, cells}
use Rattle.model.specs.Request.{Change, choose, Instance}
use Rattle.model.specs.Fault.{published}
use Rattle.model.specs.Reply.{Reply}
use Rattle.model.specs.Enumeration.{EnumerationReply}
use Rattle.model.specs.Calls.{Marks, Call, Made, State}
use Rattle.model.specs.Promises.{Answered, Filtered, StrikeRule, Local, TestAnswered, CompareAnswered, EnumerationAnswered}
use Rattle.wire.specs.Entries.{Bytes, entries16, entries32, entries64, bytes}
use Rattle.encoding.specs.Records.{counts_in, with_counts}
use Rattle.encoding.specs.Packed.{unpacked, replied_in, enumerated_in, pair_in, Outcome, outcome}
use Rattle.encoding.specs.Call.{ByteBook, byte_network, byte_instance, whole_test, whole_book, ByteRequest, byte_request, is_whole, not_whole, decoded_change, decoded, accepts_bytes, KeepsBytes, Listing, listing, whole_book_and_list}

-- ---- What the bytes hold

abbrev pub decoded_outcome : Outcome → Reply
decoded_outcome o = replied_in o.answer (entries64 o.marks) (entries16 o.supports) (counts_in o.sheets)

-- Of the records' bytes, which are as many as lent, only those of the counts may differ.
pub record OnlyCounts (lent after : List ℕ) : Type 0 where
  pub long : length after ≡ length lent
  pub same : after ≡ with_counts lent (counts_in after)
  pub are-bytes : Bytes after

-- ---- One call

-- Every byte is as lent.
abbrev pub Untouched : ByteRequest → Outcome → Type 0
Untouched q o = (o.sheets ≡ q.book.sheets) × (o.marks ≡ q.marks) × (o.supports ≡ q.supports)

-- a refusal number of the calls from C: 1, or one of those on lists
abbrev pub PublishedByte : ℕ → Type 0
PublishedByte n = (n ≡ 1) ⊎ (published n ≡ true)

-- Mission points 1 and 2, of a request q and its outcome o.
pub record ByteAnswered (q : ByteRequest) (o : Outcome) : Type 0 where
  -- number 1 comes before all others
  pub not-whole : is_whole q ≡ false → o ≡ outcome not_whole q.book.sheets q.marks q.supports
  pub whole : is_whole q ≡ true → Answered (decoded q) (decoded_outcome o)
  -- a refusal has one of the numbers 1 to 14, 18 and 19, and changes no lent byte
  pub refused : (unpacked o.answer).kind ≡ 2 → Untouched q o × PublishedByte (unpacked o.answer).subject
  pub filtered : accepts_bytes q ≡ true → Filtered (decoded q) (decoded_outcome o)
  -- the bytes are those of the counts, the words and the numbers that they hold, and every other byte of the records is as lent
  pub bytes_left : accepts_bytes q ≡ true → OnlyCounts q.book.sheets o.sheets × (o.marks ≡ bytes 8 (entries64 o.marks)) × (o.supports ≡ bytes 2 (entries16 o.supports))

-- ---- Lists of calls

-- The bytes that are handed from call to call: the records, which hold the live counts, and the marks.
pub record ByteMarks : Type 0 where
  pub sheets : List ℕ
  pub marks : List ℕ

-- The rest of a book, which is only read.
pub record ByteRest : Type 0 where
  pub questions : List ℕ
  pub codes : List ℕ
  pub m : ℕ
  pub combinations : List ℕ

-- the book of both
abbrev pub book_of : ByteRest → List ℕ → ByteBook
book_of R sheets =
    record { sheets = sheets; questions = R.questions; codes = R.codes; m = R.m; combinations = R.combinations }

-- One call: records and marks of its own or else the shared ones, the rest of a book, a support list and a change, all as bytes.
pub record ByteCall : Type 0 where
  pub rest : ByteRest
  pub own : Option ByteMarks
  pub supports : List ℕ
  pub change : Change

abbrev pub lent_bytes : Option ByteMarks → ByteMarks → ByteMarks
lent_bytes none shared = shared
lent_bytes (some own) shared = own

-- the call's request while the shared bytes are these
abbrev pub request_of : ByteMarks → ByteCall → ByteRequest
request_of s c =
    let lent = lent_bytes c.own s in
    byte_request (book_of c.rest lent.sheets) lent.marks c.supports c.change

-- what the shared bytes are after a call that leaves `after` in those lent to it
abbrev pub shared_bytes : Option ByteMarks → ByteMarks → ByteMarks → ByteMarks
shared_bytes none shared after = after
shared_bytes (some own) shared after = shared

-- the records and marks that an outcome leaves
abbrev pub left_in : Outcome → ByteMarks
left_in o = record { sheets = o.sheets; marks = o.marks }

-- A call that was made, with its outcome.
abbrev pub ByteMade : Type 0
ByteMade = ByteCall × Outcome

-- it was accepted, which is to say that it was not refused
abbrev pub is_accepted_byte : ByteMade → Bool
is_accepted_byte c = not (eqb (unpacked c.1.answer).kind 2)

-- The shared bytes, how many tuples were withdrawn and deleted so far, and the last accepted call with its outcome.
pub record ByteState : Type 0 where
  pub shared : ByteMarks
  pub gone : ℕ
  pub last : Option ByteMade

abbrev pub start_bytes : ByteMarks → ByteState
start_bytes s = record { shared = s; gone = 0; last = none }

abbrev pub after_bytes : ByteState → ByteMade → ByteState
after_bytes st c =
    record {
      shared = shared_bytes c.0.own st.shared (left_in c.1);
      gone = st.gone + ((unpacked c.1.answer).withdrawn + (unpacked c.1.answer).deleted);
      last = cond (is_accepted_byte c) (some c) st.last;
    }

abbrev pub after_all_bytes : ByteState → List ByteMade → ByteState
after_all_bytes st [] = st
after_all_bytes st (c ∷ cs) = after_all_bytes (after_bytes st c) cs

-- each call is given the bytes that the last one left, and keeps its contract
abbrev pub AllKeepBytes : ByteState → List ByteMade → Type 0
AllKeepBytes st [] = Unit {0}
AllKeepBytes st (c ∷ cs) = KeepsBytes (request_of st.shared c.0) c.1 × AllKeepBytes (after_bytes st c) cs

-- The calls are on the shared bytes, but a call that was refused may be on others: another book, or records and marks of its own.
abbrev pub ProperBytes : ByteRest → List ByteMade → Type 0
ProperBytes R made =
    (c : ByteMade) → Memᴰ c made → ((c.0.rest ≡ R) × (c.0.own ≡ none)) ⊎ (is_accepted_byte c ≡ false)

abbrev pub AreBytes : ByteMarks → Type 0
AreBytes s = Bytes s.sheets × Bytes s.marks

-- the lists that the calls may write are lists of bytes
abbrev pub AllBytes : ByteMarks → List ByteMade → Type 0
AllBytes s made = (c : ByteMade) → Memᴰ c made → AreBytes (lent_bytes c.0.own s) × Bytes c.0.supports

-- some call of the list was accepted
abbrev pub any_accepted_bytes : List ByteMade → Bool
any_accepted_bytes made = any is_accepted_byte made

-- ---- .. and what their bytes hold

abbrev pub decoded_marks : ByteMarks → Marks
decoded_marks s = record { words = entries64 s.marks; counts = counts_in s.sheets }

abbrev pub decoded_own : Option ByteMarks → Option Marks
decoded_own none = none
decoded_own (some own) = some (decoded_marks own)

-- the instance of a call while the shared bytes are these
abbrev pub instance_on : ByteMarks → ByteCall → Instance
instance_on s c = byte_instance (request_of s c).book

-- the shared bytes at the start say which relations there are, for all calls
abbrev pub decoded_call : ByteMarks → ByteCall → Call
decoded_call s c =
    record {
      given = instance_on s c;
      own = decoded_own c.own;
      supports = entries16 c.supports;
      change = decoded_change c.change;
    }

abbrev pub decoded_made : ByteMarks → ByteMade → Made
decoded_made s c = (decoded_call s c.0, decoded_outcome c.1)

-- the calls whose lists are all whole; the others are refused with number 1
abbrev pub decoded_all : ByteMarks → List ByteMade → List Made
decoded_all s [] = []
decoded_all s (c ∷ cs) = cond (is_whole (request_of s c.0)) (decoded_made s c ∷ decoded_all s cs) (decoded_all s cs)

abbrev pub decoded_last : ByteMarks → Option ByteMade → Option Made
decoded_last s none = none
decoded_last s (some c) = some (decoded_made s c)

abbrev pub decoded_state : ByteMarks → ByteState → State
decoded_state s st = record { marks = decoded_marks st.shared; gone = st.gone; last = decoded_last s st.last }

-- Mission point 3 as a single claim about a list of calls made on one book's bytes and the bytes of its marks.
pub record ByteClaim (R : ByteRest) (s : ByteMarks) (made : List ByteMade) : Type 0 where
  pub rule : any_accepted_bytes made ≡ true → StrikeRule (byte_instance (book_of R s.sheets)) (decoded_marks s) (decoded_all s made) (decoded_state s (after_all_bytes (start_bytes s) made))
  -- no accepted call: every byte of every call is as lent
  pub nothing : any_accepted_bytes made ≡ false → (after_all_bytes (start_bytes s) made ≡ start_bytes s) × ((c : ByteMade) → Memᴰ c made → Untouched (request_of s c.0) c.1)
  pub local : Local (byte_instance (book_of R s.sheets)) (decoded_marks s) (decoded_all s made) (decoded_state s (after_all_bytes (start_bytes s) made))
  -- the records but for their counts as at the start, as many marks, and all bytes
  pub sheets-left : OnlyCounts s.sheets (after_all_bytes (start_bytes s) made).shared.sheets
  pub marks-left : (length (after_all_bytes (start_bytes s) made).shared.marks ≡ length s.marks) × Bytes (after_all_bytes (start_bytes s) made).shared.marks

-- ---- Several choices at once (card 7)

-- one choose call for each pair, in their order, on the shared bytes, each lent the supports that the last one left
abbrev pub SinglyBytes : ByteRest → List ℕ → List Cell → List ByteMade → Type 0
SinglyBytes R supports [] [] = Unit {0}
SinglyBytes R supports [] (c ∷ made) = ⊥
SinglyBytes R supports (p ∷ pairs) [] = ⊥
SinglyBytes R supports (p ∷ pairs) (c ∷ made) =
    (c.0 ≡ record { rest = R; own = none; supports = supports; change = choose p.0 p.1 }) × SinglyBytes R c.1.supports pairs made

-- the supports that the last of them leaves
abbrev pub supports_after_bytes : List ℕ → List ByteMade → List ℕ
supports_after_bytes supports [] = supports
supports_after_bytes supports (c ∷ made) = supports_after_bytes c.1.supports made

-- Calls leave together the bytes that one call on the same ones leaves, with the outcome o, and each of them is accepted.
pub record LeaveAlikeBytes (s : ByteMarks) (supports : List ℕ) (made : List ByteMade) (o : Outcome) : Type 0 where
  pub accepted : (c : ByteMade) → Memᴰ c made → is_accepted_byte c ≡ true
  pub shared : (after_all_bytes (start_bytes s) made).shared ≡ left_in o
  pub numbers : supports_after_bytes supports made ≡ o.supports

-- the pairs that bytes of questions and of codes hold
abbrev pub byte_pairs : List ℕ → List ℕ → List Cell
byte_pairs questions codes = cells (entries16 questions) (entries32 codes)

-- Where there is a pair, the call leaves the bytes that choosing the pairs one by one leaves, in any order.
abbrev pub AtOnceBytes : ByteRest → ByteMarks → List ℕ → List ℕ → List ℕ → Outcome → Type 0
AtOnceBytes R s supports questions codes o =
    empty (byte_pairs questions codes) ≡ false
    → (order : List Cell)
    → Permutation (byte_pairs questions codes) order
    → (made : List ByteMade)
    → AllBytes s made
    → SinglyBytes R supports order made
    → AllKeepBytes (start_bytes s) made
    → LeaveAlikeBytes s supports made o

-- ---- Test and compare

-- Where every list is whole the answer is that of the promise, and else number 1 refuses.
pub record ByteDecides (is_whole : Bool) (promise : ℕ × ℕ → Type 0) (n : ℕ) : Type 0 where
  pub whole : is_whole ≡ true → promise (pair_in n)
  pub not-whole : is_whole ≡ false → n ≡ not_whole

abbrev pub ByteTestAnswered : ByteBook → List ℕ → ℕ → Type 0
ByteTestAnswered B marks = ByteDecides (whole_test B marks) (TestAnswered (byte_instance B) (entries64 marks))

abbrev pub ByteCompareAnswered : List ℕ → List ℕ → List ℕ → ℕ → ℕ → ℕ → Type 0
ByteCompareAnswered sheets questions codes a b =
    ByteDecides (whole_book sheets questions codes) (CompareAnswered (byte_network sheets questions codes) a b)

-- ---- The listing of connected combinations (card 1), whose list lent is the book's combinations

-- what the bytes hold
abbrev pub decoded_listing : Listing → EnumerationReply
decoded_listing o = enumerated_in o.answer (entries16 o.combinations)

-- Where every list is whole, what the bytes hold is as promised of the lists that they hold, and else number 1 refuses; a refusal changes no
-- byte; and the bytes are as many as lent, of which those behind what is listed are as lent.
pub record ByteEnumerationAnswered (B : ByteBook) (o : Listing) : Type 0 where
  pub whole : whole_book_and_list B ≡ true → EnumerationAnswered (byte_network B.sheets B.questions B.codes) B.m (entries16 B.combinations) (decoded_listing o)
  pub not-whole : whole_book_and_list B ≡ false → o ≡ listing not_whole B.combinations
  pub refused : (unpacked o.answer).kind ≡ 2 → o.combinations ≡ B.combinations
  pub long : length o.combinations ≡ length B.combinations
  pub behind : let listed = 2 * ((unpacked o.answer).left * B.m) in drop listed o.combinations ≡ drop listed B.combinations
