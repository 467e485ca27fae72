-- The program's commands are of those whose matches clap's contracts say exactly.
use Rattle.std.proofs.Common.{◌≡◌, true, refl}
use Rattle.clap.specs.Simple.{is_simple}
use Rattle.clap.specs.Faults.{is_simple_and_free}
use Rattle.clap.proofs.OnLiterals.{clap_on_literals}
use Rattle.toga_words.specs.Program.{program}

pub program_is_simple : is_simple program ≡ true
unfolding program clap_on_literals
program_is_simple = refl

pub program_is_free : is_simple_and_free program ≡ true
unfolding program clap_on_literals
program_is_free = refl
