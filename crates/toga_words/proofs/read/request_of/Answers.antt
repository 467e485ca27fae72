use Rattle.std.proofs.Common.{◌≡◌, Some, List}
use Rattle.std.specs.Prelude.{option_map}
use Rattle.std.specs.Box.{box_value}
use Rattle.std.proofs.lemmas.Result.{IfOk-weaker}
use Rattle.clap.specs.Matches.{found_of, subcommand_name_of}
use Rattle.clap.specs.Simple.{subcommand_rows_of}
use Rattle.clap.specs.Walk.{Row, Text, rows_of}
use Rattle.clap.specs.declared.parser.matches.ArgMatches.TheViews.{out-ArgMatches, out-SubCommand}
use Rattle.toga_words.proofs.Named.{named, asks_by}
use Rattle.toga_words.proofs.read.request_of.Goals as goal

pub returns-in-Some : goal.returns-in-Some
returns-in-Some c =
    let m = c.args.matches.now in
    let n = c.in-Some.name.now in
    let r = rows_of (found_of c.in-Some.given.now) in
    let h1 = c.in-Some.ensures.name in
    let h2 = c.in-Some.ensures.rows in
    let i1 = c.in-Some.name-is in
    let i2 = c.in-Some.given-is in
    let e1 : Some n ≡ subcommand_name_of m = cc in
    let e2 : Some r ≡ option_map (λ (p : Text × List Row). p.1) (subcommand_rows_of m) = cc in
    let is : subcommand_rows_of m ≡ Some (n, r) =
    named (out-ArgMatches m).subcommand (λ b. (out-SubCommand (box_value b)).name.now)
    (λ b. rows_of (found_of (out-SubCommand (box_value b)).matches)) n r e1 e2 in
    IfOk-weaker c.request_by.result _ _ (λ a h. asks_by _ n r a is h) c.request_by.ensures
