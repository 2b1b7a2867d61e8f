-- What the functions that lay out the index ensure: digits within bounds, and where each column's rows begin.
use Rattle.std.specs.Prelude.{◌≡◌, ◌⊎◌, List, ℕ, ◌+◌, ◌*◌, ◌≤◌, ◌<◌, length, get_or}
use Rattle.model.specs.Limits.{max_relations, max_width}
use Rattle.layout.specs.Starts.{variable_start}
use Rattle.value_index.specs.Plan.{plan_words, index_words, max_digits, hashes, most_rows, column_start}
use Rattle.value_index.specs.declared.plan.Digits.{Digits}

-- Every relation's scope lies within the list.
pub record ScopesWithin (starts variables : List ℕ) : Type 0 where
  pub rises : (r : ℕ) → r < max_relations → variable_start starts r ≤ variable_start starts (r + 1)
  pub inside : (r : ℕ) → r < max_relations → variable_start starts (r + 1) ≤ length variables

-- Digits that an index may have.
pub record Digital (d : Digits) : Type 0 where
  pub few : d.count ≤ max_digits
  pub some : 0 < d.rows
  pub short : d.rows ≤ most_rows
  pub small : d.factor ≤ hashes

-- rows of so many words that begin at n, if it is not 0, lie behind the plan and within the index
abbrev pub Fits : ℕ → ℕ → Type 0
Fits size n = (n ≡ 0) ⊎ ((plan_words ≤ n) × (n + size ≤ index_words))

-- n is 0, or `start` and there is room
abbrev pub Begins : ℕ → ℕ → ℕ → Type 0
Begins start size n = (n ≡ 0) ⊎ ((n ≡ start) × (start + size ≤ index_words))

-- The first k columns of relation r are laid out, and every other word is as before.
pub record LaysRelation (size r k : ℕ) (before after : List ℕ) : Type 0 where
  pub columns : (c : ℕ) → c < k → Fits size (column_start after r c)
  pub others : (j : ℕ) → (j < r * max_width) ⊎ (r * max_width + max_width ≤ j) → get_or after j 0 ≡ get_or before j 0

-- The columns of the first n relations are laid out, and every word behind all columns is as before.
pub record LaysRelations (size n : ℕ) (before after : List ℕ) : Type 0 where
  pub columns : (r c : ℕ) → r < n → c < max_width → Fits size (column_start after r c)
  pub others : (j : ℕ) → max_relations * max_width ≤ j → get_or after j 0 ≡ get_or before j 0
