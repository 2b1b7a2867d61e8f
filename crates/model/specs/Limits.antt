-- The numbers of document 01, each with its sentence.
use Rattle.std.specs.Prelude.{ℕ}

-- "A book has 1 to 64 sheets"
abbrev pub max_relations : ℕ
max_relations = 64

-- "a list of one to eight different questions"
abbrev pub max_width : ℕ
max_width = 8

-- "at most 4,096 rows in all"
abbrev pub max_tuples : ℕ
max_tuples = 4096

-- "A question is a number from 0 to 63"
abbrev pub variable_count : ℕ
variable_count = 64

-- "'any' becomes 4,294,967,295" (card 9); it stands for every code (card 4)
abbrev pub any_value : ℕ
any_value = 4294967295

-- named in place of a variable where two tuples agree (card 3)
abbrev pub no_variable : ℕ
no_variable = 64

-- "m from 2 to 4"
abbrev pub min_members : ℕ
min_members = 2

abbrev pub max_members : ℕ
max_members = 4

-- "There are at most 256 combinations"
abbrev pub max_combinations : ℕ
max_combinations = 256

-- "The waiting list holds each pair of combination and member at most once, 1,024 pairs at most"
abbrev pub max_pairs : ℕ
max_pairs = 1024

-- "The support list needs over 32,768 numbers"
abbrev pub max_support_numbers : ℕ
max_support_numbers = 32768

-- "a dead row's m numbers are all 65,535"
abbrev pub no_support : ℕ
no_support = 65535

-- "Marks are 64-bit words"
abbrev pub word_bits : ℕ
word_bits = 64
