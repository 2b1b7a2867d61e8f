-- The desk's text: decimal fields parted by commas, in lines; and a network with its combinations as such lines.
use Rattle.std.specs.Prelude.{Bool, ◌&&◌, cond, List, [], ◌∷◌, ◌++◌, map, ℕ, zero, suc, ◌+◌, ◌/◌, ◌%◌, leb, ltb, length}
use Rattle.model.specs.Limits.{max_relations, max_tuples, min_members, max_members}
use Rattle.model.specs.Lists.{from, all, each}
use Rattle.model.specs.Network.{Network, width, size, total, ids_of, scope_of, tuple_of}
use Rattle.model.specs.Request.{Instance, combinations_of}
use Rattle.model.specs.Fault.{within, proper_width, proper_lengths, proper_list}

-- "each at most 65,535"
abbrev pub max_field : ℕ
max_field = 65535

-- .. but for codes, which widen to 32 bits (card 9)
abbrev pub max_code : ℕ
max_code = 4294967295

-- "at most 32,768 bytes of text" (card 9)
abbrev pub max_text : ℕ
max_text = 32768

-- "every line ended by byte 10"
abbrev pub newline : ℕ
newline = 10

abbrev pub comma : ℕ
comma = 44

-- the byte of the digit nought; the other nine follow it
abbrev pub nought : ℕ
nought = 48

-- the decimal digits of n, with no needless nought in front: at most k of them
abbrev pub digits_of : ℕ → ℕ → List ℕ
digits_of zero n = []
digits_of (suc k) n = cond (ltb n 10) ((nought + n) ∷ []) (digits_of k (n / 10) ++ ((nought + n % 10) ∷ []))

-- a field: a number of at most ten digits
unfoldable pub decimal : ℕ → List ℕ
decimal n = digits_of 10 n

-- a line: its fields parted by commas, and byte 10
abbrev pub line_text : List ℕ → List ℕ
line_text [] = newline ∷ []
line_text (n ∷ []) = decimal n ++ (newline ∷ [])
line_text (n ∷ k ∷ ks) = decimal n ++ (comma ∷ line_text (k ∷ ks))

unfoldable pub text_of : List (List ℕ) → List ℕ
text_of lines = each line_text lines

-- ---- A network with its combinations

-- relation r: its width and how many tuples it has; its scope; each tuple
abbrev pub relation_lines : Network → ℕ → List (List ℕ)
relation_lines N r = (width N r ∷ size N r ∷ []) ∷ scope_of N r ∷ map (tuple_of N) (ids_of N r)

abbrev pub network_lines : Network → List (List ℕ)
network_lines N = each (relation_lines N) (from 0 (length N.relations))

-- how many relations, m, how many combinations; each relation; each combination
unfoldable pub instance_lines : Instance → List (List ℕ)
instance_lines I =
    (length I.network.relations ∷ I.m ∷ length (combinations_of I) ∷ [])
    ∷ (network_lines I.network ++ combinations_of I)

unfoldable pub instance_text : Instance → List ℕ
instance_text I = text_of (instance_lines I)

abbrev pub small : ℕ → List ℕ → Bool
small top = all (λ (n : ℕ). leb n top)

-- codes, questions and members are small enough for their fields; the numbers in front of them are, where the sizes are in range
abbrev pub small_fields : Instance → Bool
small_fields I = small max_field I.network.variables && small max_code I.network.values && small max_field I.members

-- the records are in range, and the lists as long as they call for (no fault 2 to 5)
abbrev pub proper_sizes : Network → Bool
proper_sizes N =
    within 1 max_relations (length N.relations)
    && all proper_width N.relations
    && leb (total N) max_tuples
    && proper_lengths N

-- the instance can be written as a text: its sizes are in range (no fault 7 or 8 either), its numbers small, and the text
-- not too long
unfoldable pub writable : Instance → Bool
writable I =
    proper_sizes I.network
    && within min_members max_members I.m
    && proper_list I.m I.members
    && small_fields I
    && leb (length (instance_text I)) max_text
