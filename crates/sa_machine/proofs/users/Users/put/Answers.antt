use Rattle.std.proofs.Common.{refl, sym, ap, ◌∙◌, arith}
use Rattle.sa_machine.proofs.CountLemmas.{counted-same, user-within, user-is, set-by}
use Rattle.sa_machine.proofs.users.Users.put.Goals as goal

pub index_mut-level-requires : goal.index_mut-level-requires
index_mut-level-requires g c =
    let within = user-within c.self.view_is c.from.ensures c.requires in
    omega (arith, within)

pub invariant_of-self : goal.invariant_of-self
invariant_of-self g c =
    let keeps = (g.met.U.Asked g.world.𝓛 g.world.𝓜 g.world.𝓡 ((λ s x. x), (λ x. x), (λ x. x), λ x. x)).keeps_replies in
    let tally = g.U.UserLevel.calls.tally in
    let u = c.index_mut-level.result.now in
    counted-same c.self.invariant (user-within c.self.view_is c.from.ensures c.requires) c.index_mut-level.ensures.value refl
    (sym (ap tally c.put.ensures ∙ keeps.tallies u (g.U.Asked.replies.put u c.args.reply) (keeps.puts u c.args.reply)))

pub returns : goal.returns
returns g c = λ u at.
    set-by (λ (w : g.row.U.Denot). g.U.Asked.replies.put w c.args.reply) c.self.view_is c.from.ensures
    (user-is c.self.view_is c.from.ensures c.requires c.index_mut-level.ensures.value at) c.put.ensures
