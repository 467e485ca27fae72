use Rattle.std.proofs.Common.{◌<◌, length, subst, sym, cond, Bool, ◌≤◌, arith, rules}
use Rattle.sa_fast.specs.Threads.{is_loaded, is_active, is_done}
use Rattle.sa_fast.proofs.Counts.{counted-some, counted-few, counted-set}
use Rattle.sa_fast.proofs.threads.Threads.set.Goals as goal

pub invariant_of-self : goal.invariant_of-self
invariant_of-self c =
    let s = c.self.inside in
    counted-set s.blocks.items s.load s.active s.done s.used c.args.t.0 c.index.result.now c.args.block c.self.invariant c.requires c.index.ensures _ _ _ _
    (search rules) (search rules) (search rules) c.max-self-inside.ensures

pub moved-self-inside-requires-clause-some : goal.moved-self-inside-requires-clause-some
moved-self-inside-requires-clause-some c =
    let s = c.self.inside in
    let inside : c.args.t.0 < length s.blocks.items = omega (arith, c.self.invariant.all, c.requires) in
    subst (λ (b : Bool). cond b 1 0 ≤ s.load) (sym c.is_loaded.ensures)
    (counted-some (λ b. is_loaded b.place) s.blocks.items c.args.t.0 c.index.result.now s.load inside c.index.ensures c.self.invariant.loads)

pub moved-self-inside-requires-clause-few : goal.moved-self-inside-requires-clause-few
moved-self-inside-requires-clause-few c =
    let s = c.self.inside in counted-few (λ b. is_loaded b.place) s.blocks.items s.load c.self.invariant.all c.self.invariant.loads

pub moved-self-inside-requires-2-clause-some : goal.moved-self-inside-requires-2-clause-some
moved-self-inside-requires-2-clause-some c =
    let s = c.self.inside in
    let inside : c.args.t.0 < length s.blocks.items = omega (arith, c.self.invariant.all, c.requires) in
    subst (λ (b : Bool). cond b 1 0 ≤ s.active) (sym c.is_active.ensures)
    (counted-some (λ b. is_active b.place) s.blocks.items c.args.t.0 c.index.result.now s.active inside c.index.ensures c.self.invariant.actives)

pub moved-self-inside-requires-2-clause-few : goal.moved-self-inside-requires-2-clause-few
moved-self-inside-requires-2-clause-few c =
    let s = c.self.inside in counted-few (λ b. is_active b.place) s.blocks.items s.active c.self.invariant.all c.self.invariant.actives

pub moved-self-inside-requires-3-clause-some : goal.moved-self-inside-requires-3-clause-some
moved-self-inside-requires-3-clause-some c =
    let s = c.self.inside in
    let inside : c.args.t.0 < length s.blocks.items = omega (arith, c.self.invariant.all, c.requires) in
    subst (λ (b : Bool). cond b 1 0 ≤ s.done) (sym c.is_done.ensures)
    (counted-some (λ b. is_done b.place) s.blocks.items c.args.t.0 c.index.result.now s.done inside c.index.ensures c.self.invariant.ends)

pub moved-self-inside-requires-3-clause-few : goal.moved-self-inside-requires-3-clause-few
moved-self-inside-requires-3-clause-few c =
    let s = c.self.inside in counted-few (λ b. is_done b.place) s.blocks.items s.done c.self.invariant.all c.self.invariant.ends
