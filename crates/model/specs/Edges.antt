-- A request as a program with buffers of fixed size holds it.
use Rattle.std.specs.Prelude.{List, ◌++◌, ℕ, suc, take}
use Rattle.model.specs.Network.{Network}
use Rattle.model.specs.Request.{Instance}
use Rattle.model.specs.Reply.{Reply}

-- 64 scopes of eight variables
abbrev pub max_variables : ℕ
max_variables = 512

-- 4,096 tuples of eight values
abbrev pub max_values : ℕ
max_values = 32768

-- 256 combinations of four members
abbrev pub max_member_list : ℕ
max_member_list = 1024

-- 4,096 tuples, 64 to the word
abbrev pub max_words : ℕ
max_words = 64

-- one entry more than any accepted list has
abbrev pub cut_network : Network → Network
cut_network N =
    record {
      relations = N.relations;
      variables = take (suc max_variables) N.variables;
      values = take (suc max_values) N.values;
    }

abbrev pub cut_instance : Instance → Instance
cut_instance I = record { network = cut_network I.network; m = I.m; members = take (suc max_member_list) I.members }

-- the reply with the words and the numbers that were cut off
abbrev pub restored : List ℕ → List ℕ → Reply → Reply
restored words supports r =
    record { answer = r.answer; words = r.words ++ words; supports = r.supports ++ supports; counts = r.counts }
