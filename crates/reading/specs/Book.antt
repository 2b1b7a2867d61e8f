-- What `read` gives, and what the lists then hold.
use Rattle.std.specs.Prelude.{◌≡◌, Bool, true, false, cond, List, ℕ, ◌≤◌, length, take, drop}
use Rattle.std.proofs.Math.Option.{Option, none, some}
use Rattle.model.specs.Request.{Instance}
use Rattle.model.specs.Reading.{read}
use Rattle.layout.specs.Shape.{shape_of, instance_of}
use Rattle.reading.specs.declared.Book.{Book}
use Rattle.reading.specs.Parts.{blank_shape}

-- what the call gives: the instance's records, its m, and how long its lists are; noughts if there is none
abbrev pub book_of : Option Instance → Book
book_of none = record { ok = false; shape = blank_shape 0; m = 0; variables = 0; values = 0; members = 0 }
book_of (some I) =
    record {
      ok = true;
      shape = shape_of I.network.relations;
      m = I.m;
      variables = length I.network.variables;
      values = length I.network.values;
      members = length I.members;
    }

-- the instance in the lists; none if nothing was read
abbrev pub found : Book → List ℕ → List ℕ → List ℕ → Option Instance
found b variables values members =
    cond b.ok
    (some (instance_of b.shape (take b.variables variables) (take b.values values) b.m (take b.members members)))
    none

-- A list before and after the reading: its first n entries can be lent, and behind them it is as lent.
-- Free: which entries it holds where nothing was read (ok is false); their number stays.
pub record Filled (ok : Bool) (n : ℕ) (before after : List ℕ) : Type 0 where
  pub within : n ≤ length after
  pub count : n ≡ length (take n after)
  pub long : length after ≡ length before
  pub rest : ok ≡ true → drop n after ≡ drop n before

-- The book is that of the instance that the text gives, and this instance stands at the front of the lists.
pub record Standing (text : List ℕ) (b : Book) (variables₀ variables values₀ values members₀ members : List ℕ) : Type 0 where
  pub given : b ≡ book_of (read text)
  pub is_read : found b variables values members ≡ read text
  pub variables-filled : Filled b.ok b.variables variables₀ variables
  pub values-filled : Filled b.ok b.values values₀ values
  pub members-filled : Filled b.ok b.members members₀ members

-- .. of the lists lent, before and after
abbrev pub Stands : List ℕ → Book → List ℕ → List ℕ → List ℕ → List ℕ → List ℕ → List ℕ → Type 0
Stands text b variables₀ variables values₀ values members₀ members = Standing text b variables₀ variables values₀ values members₀ members
