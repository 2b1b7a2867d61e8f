-- Live words (document 01: marks): a set of tuples as the bits of 64-bit words.
use Rattle.std.specs.Prelude.{Bool, not, ◌&&◌, ◌||◌, cond, List, [], ◌∷◌, map, ℕ, zero, suc, ◌+◌, ◌-◌, ◌*◌, ◌/◌, ◌%◌, ◌^◌, ltb, eqb, get_or, set}
use Rattle.model.specs.Limits.{word_bits}
use Rattle.model.specs.Lists.{from, select, first_or}
use Rattle.model.specs.TupleSet.{TupleSet, has}

-- how many words the bits of n ids take
abbrev pub words_for : ℕ → ℕ
words_for n = (n + 63) / word_bits

-- bit k of a word, bit 0 lowest
unfoldable pub bit : ℕ → ℕ → ℕ
bit w k = w / 2 ^ k % 2

unfoldable pub is_set : ℕ → ℕ → Bool
is_set w k = eqb (bit w k) 1

-- id g is live: bit g mod 64 of word g / 64 is 1
unfoldable pub is_live : List ℕ → ℕ → Bool
is_live ws g = is_set (get_or ws (g / word_bits) 0) (g % word_bits)

-- which of the n ids from i on are live
abbrev pub living_from : ℕ → ℕ → List ℕ → TupleSet
living_from i n ws = map (is_live ws) (from i n)

-- the live ones of the first n ids
unfoldable pub living : ℕ → List ℕ → TupleSet
living n ws = living_from 0 n ws

-- the first live id from i on and below end; end where there is none
unfoldable pub next_live : List ℕ → ℕ → ℕ → ℕ
next_live ws i end = first_or end (select (is_live ws) (from i (end - i)))

-- the number with the k binary digits f i, f (i + 1), .. , the lowest first
abbrev pub digits : (ℕ → Bool) → ℕ → ℕ → ℕ
digits f i zero = 0
digits f i (suc k) = cond (f i) 1 0 + 2 * digits f (suc i) k

-- the word with the bits f 0 to f 63
unfoldable pub word : (ℕ → Bool) → ℕ
word f = digits f 0 word_bits

-- the words once id g is dead, every other bit as it was
unfoldable pub cleared : ℕ → List ℕ → List ℕ
cleared g ws =
    set ws (g / word_bits) (word (λ (j : ℕ). is_set (get_or ws (g / word_bits) 0) j && not (eqb (g % word_bits) j)))

-- the words once id g is live, every other bit as it was
unfoldable pub raised : ℕ → List ℕ → List ℕ
raised g ws =
    set ws (g / word_bits) (word (λ (j : ℕ). is_set (get_or ws (g / word_bits) 0) j || eqb (g % word_bits) j))

-- bit j of word k once S is written: an id below n is as in S, any other bit as it was
abbrev pub bit_after : ℕ → TupleSet → ℕ → ℕ → ℕ → Bool
bit_after n S k w j = cond (ltb (word_bits * k + j) n) (has S (word_bits * k + j)) (is_set w j)

abbrev pub written_from : ℕ → ℕ → TupleSet → List ℕ → List ℕ
written_from k n S [] = []
written_from k n S (w ∷ ws) = word (bit_after n S k w) ∷ written_from (suc k) n S ws

-- the words once the first n ids are as in S; spare bits and later words as they were
unfoldable pub written : ℕ → TupleSet → List ℕ → List ℕ
written n S ws = written_from 0 n S ws
