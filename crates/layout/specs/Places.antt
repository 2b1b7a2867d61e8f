-- Where a relation's scope and its tuples lie in the lists.
use Rattle.std.specs.Prelude.{List, ℕ, ◌+◌, ◌-◌, ◌*◌}
use Rattle.layout.specs.declared.Place.{Place}
use Rattle.layout.specs.Starts.{variable_start, value_start}

-- how many variables relation r has
abbrev pub width_in : List ℕ → ℕ → ℕ
width_in starts r = variable_start starts (r + 1) - variable_start starts r

-- the scope of relation r, and the values of its tuple x
abbrev pub place_at : List ℕ → ℕ → ℕ → Place
place_at starts r x =
    record {
      scope = variable_start starts r;
      scope_end = variable_start starts (r + 1);
      tuple = value_start starts r + x * width_in starts r;
      tuple_end = value_start starts r + x * width_in starts r + width_in starts r;
    }
