-- The places below o hold what C6 asks, the set that is known is the last found closed, and closed, and what those places carry is found.
use Rattle.std.proofs.Common.{◌≡◌, true}
use Rattle.sets.specs.Below.{all_below}
use Rattle.model.specs.Claims.{holds}
use Rattle.claimsets.specs.Family.{closed}
use Rattle.claims.specs.Parts.{known_below, Tells}
use Rattle.claims.proofs.files.walk_files.Given as goal

abbrev pub invariant-loop-o : goal.invariant-loop-o
invariant-loop-o l = record {
  hold : all_below l.o (holds l.claim.tables.now l.claim.words.now) ≡ true;
  known : l.known.bits ≡ known_below l.row l.claim.tables.now l.claim.words.now l.o;
  closed : closed l.row l.known.bits ≡ true;
  tells : Tells l.claim.tables.now l.claim.words.now l.o l.found;
}
