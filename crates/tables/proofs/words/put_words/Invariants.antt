-- The invariant: what is left to put, from word k on, comes to the whole run over the row as it was.
use Rattle.std.proofs.Common.{◌≡◌, length, drop}
use Rattle.model.specs.Words.{put_from, put}
use Rattle.tables.proofs.words.put_words.Given as goal

abbrev pub invariant-loop-k : goal.invariant-loop-k
invariant-loop-k l = (put_from l.t l.a l.k (drop l.k l.vs) ≡ put l.initial.t l.a l.vs) × (length l.t ≡ length l.initial.t)
