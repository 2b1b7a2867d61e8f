-- What the calls from C give and leave, told by the bytes that they are lent.
use Rattle.std.specs.Prelude.{◌≡◌, Bool, true, ◌&&◌, cond, List, ◌++◌, ℕ, ◌*◌, length, take, drop}
use Rattle.model.specs.Network.{Network}
use Rattle.model.specs.Request.{Change, filter, withdraw, choose, choose_several, Instance, Request}
use Rattle.model.specs.Fault.{accepts}
use Rattle.model.specs.Reply.{reply, test_reply, compare_reply}
use Rattle.model.specs.Enumeration.{EnumerationReply, enumeration_reply}
use Rattle.wire.specs.Entries.{entries16, entries32, entries64, bytes}
use Rattle.encoding.specs.Records.{records, counts_in}
use Rattle.encoding.specs.Whole.{whole, whole_cells, whole_network, whole_instance, whole_change}
use Rattle.encoding.specs.Packed.{packed, packed_pair, Outcome, outcome, reply_bytes}

-- ---- Books

-- The bytes of a book and its combinations, and m.
pub record ByteBook : Type 0 where
  pub sheets : List ℕ
  pub questions : List ℕ
  pub codes : List ℕ
  pub m : ℕ
  pub combinations : List ℕ

-- that of the bytes that are lent, as `at` reads them
abbrev pub byte_book : {A : Type 0} → (A → List ℕ) → A → A → A → ℕ → A → ByteBook
byte_book at sheets questions codes m combinations =
    record { sheets = at sheets; questions = at questions; codes = at codes; m = m; combinations = at combinations }

-- the network that bytes hold: sheet records, questions and codes
abbrev pub byte_network : List ℕ → List ℕ → List ℕ → Network
byte_network sheets questions codes =
    record { relations = records sheets; variables = entries16 questions; values = entries32 codes }

-- .. with its combinations
abbrev pub byte_instance : ByteBook → Instance
byte_instance B =
    record { network = byte_network B.sheets B.questions B.codes; m = B.m; members = entries16 B.combinations }

-- the answer where a list is not a whole number of entries: refused, number 1
abbrev pub not_whole : ℕ
not_whole = packed_pair (2, 1)

-- ---- The change calls

-- A request as bytes. The lists of its change are bytes too.
pub record ByteRequest : Type 0 where
  pub book : ByteBook
  pub marks : List ℕ
  pub supports : List ℕ
  pub change : Change

abbrev pub byte_request : ByteBook → List ℕ → List ℕ → Change → ByteRequest
byte_request B marks supports change = record { book = B; marks = marks; supports = supports; change = change }

-- the change's own lists are whole numbers of entries
abbrev pub whole_own : Change → Bool
whole_own filter = true
whole_own (withdraw ids) = whole 2 (length ids)
whole_own (choose x v) = true
whole_own (choose_several xs vs) = whole_cells (length xs) (length vs)

-- every other list is
abbrev pub whole_lists : ByteBook → List ℕ → List ℕ → Bool
whole_lists B marks supports =
    whole_change (length B.sheets) (length B.questions) (length B.codes) (length B.combinations) (length marks) (length supports)

-- every list is
abbrev pub is_whole : ByteRequest → Bool
is_whole q = whole_lists q.book q.marks q.supports && whole_own q.change

abbrev pub decoded_change : Change → Change
decoded_change filter = filter
decoded_change (withdraw ids) = withdraw (entries16 ids)
decoded_change (choose x v) = choose x v
decoded_change (choose_several xs vs) = choose_several (entries16 xs) (entries32 vs)

-- the request that the bytes hold
abbrev pub decoded : ByteRequest → Request
decoded q =
    record {
      given = byte_instance q.book;
      words = entries64 q.marks;
      supports = entries16 q.supports;
      counts = counts_in q.book.sheets;
      change = decoded_change q.change;
    }

-- it is accepted
unfoldable pub accepts_bytes : ByteRequest → Bool
accepts_bytes q = is_whole q && accepts (decoded q)

-- What the change calls give and leave: where every list is whole, the reply as a number and bytes; else a refusal, and
-- every byte as lent.
unfoldable pub byte_reply : ByteRequest → Outcome
byte_reply q =
    let sheets = q.book.sheets in
    cond (is_whole q) (reply_bytes (reply (decoded q)) sheets q.marks q.supports) (outcome not_whole sheets q.marks q.supports)

-- A change call keeps its contract.
abbrev pub KeepsBytes : ByteRequest → Outcome → Type 0
KeepsBytes q o = o ≡ byte_reply q

-- the answer of a change call, and the bytes that it leaves
abbrev pub left : ℕ → List ℕ → List ℕ → List ℕ → Outcome
left answer sheets marks supports = outcome answer sheets marks supports

-- ---- Test and compare

-- every list that test takes is whole
abbrev pub whole_test : ByteBook → List ℕ → Bool
whole_test B marks =
    whole_instance (length B.sheets) (length B.questions) (length B.codes) (length B.combinations) && whole 8 (length marks)

-- What test gives.
unfoldable pub byte_test : ByteBook → List ℕ → ℕ
byte_test B marks = cond (whole_test B marks) (packed_pair (test_reply (byte_instance B) (entries64 marks))) not_whole

-- every list that compare takes is whole
abbrev pub whole_book : List ℕ → List ℕ → List ℕ → Bool
whole_book sheets questions codes = whole_network (length sheets) (length questions) (length codes)

-- What compare gives.
unfoldable pub byte_compare : List ℕ → List ℕ → List ℕ → ℕ → ℕ → ℕ
byte_compare sheets questions codes a b =
    cond (whole_book sheets questions codes) (packed_pair (compare_reply (byte_network sheets questions codes) a b)) not_whole

-- .. and that they keep their contracts
abbrev pub TestedBytes : ByteBook → List ℕ → ℕ → Type 0
TestedBytes B marks n = n ≡ byte_test B marks

abbrev pub ComparedBytes : List ℕ → List ℕ → List ℕ → ℕ → ℕ → ℕ → Type 0
ComparedBytes sheets questions codes a b n = n ≡ byte_compare sheets questions codes a b

-- ---- The listing of combinations (card 1), for which the book's combinations are the list lent

-- The packed answer, and the bytes of the list at the call's end.
pub record Listing : Type 0 where
  pub answer : ℕ
  pub combinations : List ℕ

abbrev pub listing : ℕ → List ℕ → Listing
listing answer combinations = record { answer = answer; combinations = combinations }

-- every list is whole
abbrev pub whole_book_and_list : ByteBook → Bool
whole_book_and_list B = whole_instance (length B.sheets) (length B.questions) (length B.codes) (length B.combinations)

-- a reply: the numbers listed in front of the bytes lent
abbrev pub listing_bytes : EnumerationReply → ℕ → List ℕ → Listing
listing_bytes p m lent =
    let numbers = p.answer.left * m in
    listing (packed p.answer) (bytes 2 (take numbers p.members) ++ drop (2 * numbers) lent)

-- What it gives and leaves.
unfoldable pub byte_enumeration : ByteBook → Listing
byte_enumeration B =
    cond (whole_book_and_list B)
    (listing_bytes (enumeration_reply (byte_network B.sheets B.questions B.codes) B.m (entries16 B.combinations)) B.m B.combinations)
    (listing not_whole B.combinations)

-- .. and that it keeps its contract
abbrev pub EnumeratesBytes : ByteBook → Listing → Type 0
EnumeratesBytes B o = o ≡ byte_enumeration B
