use Rattle.std.proofs.Common.{List, length, ap, arith}
use Rattle.sa_machine.proofs.CountLemmas.{counted-few}
use Rattle.sa_machine.proofs.users.Users.add.Goals as goal

pub with-self-inside-requires : goal.with-self-inside-requires
with-self-inside-requires g c =
    let h = counted-few c.self.invariant in
    let len = ap (λ (xs : List g.row.U.Denot). length xs) c.self.view_is in
    let few = c.requires in
    record { few = (omega (arith, h.0, len, few), omega (arith, h.1, len, few)) }
