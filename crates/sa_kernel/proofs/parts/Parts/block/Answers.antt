use Rattle.std.proofs.Common.{refl, sym, ap, ◌∙◌, inl, inr, arith}
use Rattle.sa_kernel.specs.View.{state_of, scene_of}
use Rattle.sa_kernel.specs.Needs.{HasProc, HasSpace}
use Rattle.sa_kernel_model.specs.State.{Scene, owner_of, life_of}
use Rattle.sa_kernel_model.proofs.parts.Sizes.{sizes_of}
use Rattle.sa_kernel.proofs.Calls.{adds-more, adds-within, spends-none, spends-more, spends-within, proc-kept, space-kept, sizes-begun, upcall-kept}
use Rattle.sa_kernel.proofs.FreshActivations.{running, vacant, vacant-unused, enters-no_block, enters-block, few-begun}
use Rattle.sa_kernel.proofs.parts.Parts.block.Goals as goal

pub owner-requires : goal.owner-requires
owner-requires g c = omega (arith, c.requires.sound.sizes.owners, c.requires.within)

pub life-requires : goal.life-requires
life-requires g c = c.requires.within

pub returns-in_default-clause-exact : goal.returns-in_default-clause-exact
returns-in_default-clause-exact g c =
    let x = scene_of c.args.self.now c.args.trace.now in
    enters-no_block c.args.event c.args.p (vacant c.args.self.now.acts) c.args.held c.args.len c.args.page x c.owner.result (life_of x.state c.args.p)
    (sym c.owner.ensures) refl (inl c.in_default.is) (vacant-unused c.args.self.now.acts)

pub returns-in_default-clause-room : goal.returns-in_default-clause-room
returns-in_default-clause-room g c = spends-within 1 1 2 (spends-none c.args.self.now c.args.self.now.assign)

pub returns-in_default-clause-items : goal.returns-in_default-clause-items
returns-in_default-clause-items g c = record { spare = omega arith; same = refl }

pub returns-in_default-life-clause-exact : goal.returns-in_default-life-clause-exact
returns-in_default-life-clause-exact g c =
    let x = scene_of c.args.self.now c.args.trace.now in
    enters-no_block c.args.event c.args.p (vacant c.args.self.now.acts) c.args.held c.args.len c.args.page x (owner_of x.state c.args.p) c.life.result
    refl (sym c.life.ensures) (inr c.in_default-life.is) (vacant-unused c.args.self.now.acts)

pub returns-in_default-life-clause-room : goal.returns-in_default-life-clause-room
returns-in_default-life-clause-room g c = spends-within 1 1 2 (spends-none c.args.self.now c.args.self.now.assign)

pub returns-in_default-life-clause-items : goal.returns-in_default-life-clause-items
returns-in_default-life-clause-items g c = record { spare = omega arith; same = refl }

pub begin_block-requires-clause-proc : goal.begin_block-requires-clause-proc
begin_block-requires-clause-proc g c = record { sizes = c.requires.sound.sizes; within = c.requires.within }

pub begin_block-requires-clause-running : goal.begin_block-requires-clause-running
begin_block-requires-clause-running g c =
    let k = state_of c.args.self.now in
    running k.assign.owners k.acts c.args.p.0 c.in-Some-life.a (c.requires.sound.lives.run c.args.p.0 c.in-Some-life.a (sym c.life.ensures ∙ c.in-Some-life.is))

pub begin_block-requires-clause-space : goal.begin_block-requires-clause-space
begin_block-requires-clause-space g c = record {
  sizes = c.requires.sound.sizes;
  within = c.requires.sound.owners c.args.p.0 c.in-Some.s (sym c.owner.ensures ∙ c.in-Some.is);
}

pub begin_block-requires-clause-page : goal.begin_block-requires-clause-page
begin_block-requires-clause-page g c = c.requires.page

pub begin_block-requires-clause-notes : goal.begin_block-requires-clause-notes
begin_block-requires-clause-notes g c = c.requires.notes

pub begin_block-requires-clause-ios : goal.begin_block-requires-clause-ios
begin_block-requires-clause-ios g c =
    let ios = c.requires.ios in
    record { room = omega (arith, ios.room); last = ios.last; few = omega (arith, ios.few) }

pub begin_block-requires-clause-trace : goal.begin_block-requires-clause-trace
begin_block-requires-clause-trace g c = omega (arith, c.requires.trace)

pub go_to-requires-clause-proc : goal.go_to-requires-clause-proc
go_to-requires-clause-proc g c =
    let old = scene_of c.args.self.now c.args.trace.now in
    let before : HasProc old.state c.args.p = record { sizes = c.requires.sound.sizes; within = c.requires.within } in
    proc-kept old.state _ c.args.p
    (ap (λ (x : Scene _). sizes_of x.state) c.begin_block.ensures.exact
    ∙ sizes-begun c.args.event c.args.p c.in-Some.s c.in-Some-life.a c.args.held c.args.len c.args.page old) before

pub go_to-requires-clause-space : goal.go_to-requires-clause-space
go_to-requires-clause-space g c =
    let old = scene_of c.args.self.now c.args.trace.now in
    let before : HasSpace old.state c.in-Some.s = record {
      sizes = c.requires.sound.sizes;
      within = c.requires.sound.owners c.args.p.0 c.in-Some.s (sym c.owner.ensures ∙ c.in-Some.is);
    } in
    space-kept old.state _ c.in-Some.s
    (ap (λ (x : Scene _). sizes_of x.state) c.begin_block.ensures.exact
    ∙ sizes-begun c.args.event c.args.p c.in-Some.s c.in-Some-life.a c.args.held c.args.len c.args.page old) before

pub go_to-requires-clause-upcall : goal.go_to-requires-clause-upcall
go_to-requires-clause-upcall g c =
    upcall-kept c.begin_block.ensures.room (ap (λ (x : Scene _). x.state.telling) c.begin_block.ensures.exact) c.requires.upcall

pub go_to-requires-clause-ios : goal.go_to-requires-clause-ios
go_to-requires-clause-ios g c =
    let ios = c.requires.ios in
    let spent = c.begin_block.ensures.room in
    record { room = omega (arith, ios.room, spent.ios); last = ios.last; few = omega (arith, ios.few, spent.count) }

pub go_to-requires-clause-trace : goal.go_to-requires-clause-trace
go_to-requires-clause-trace g c =
    let sizes = c.requires.sound.sizes in
    let within = c.requires.sound.owners c.args.p.0 c.in-Some.s (sym c.owner.ensures ∙ c.in-Some.is) in
    let few =
    few-begun c.args.event c.args.p c.in-Some.s c.in-Some-life.a c.args.held c.args.len c.args.page (scene_of c.args.self.now c.args.trace.now)
    (scene_of c.begin_block.new.self c.begin_block.new.trace) (omega (arith, sizes.untold, within)) c.begin_block.ensures.exact in
    omega (arith, c.begin_block.ensures.items.spare, c.requires.trace, few)

pub returns-clause-exact : goal.returns-clause-exact
returns-clause-exact g c =
    let x = scene_of c.args.self.now c.args.trace.now in
    enters-block c.args.event c.args.p c.in-Some.s c.in-Some-life.a c.args.held c.args.len c.args.page x
    (scene_of c.begin_block.new.self c.begin_block.new.trace) _ c.go_to.result
    (sym c.owner.ensures ∙ c.in-Some.is) (sym c.life.ensures ∙ c.in-Some-life.is) c.begin_block.ensures.exact c.go_to.ensures.exact

pub returns-clause-room : goal.returns-clause-room
returns-clause-room g c = spends-more c.begin_block.ensures.room c.go_to.ensures.room

pub returns-clause-items : goal.returns-clause-items
returns-clause-items g c =
    let sizes = c.requires.sound.sizes in
    let within = c.requires.sound.owners c.args.p.0 c.in-Some.s (sym c.owner.ensures ∙ c.in-Some.is) in
    let few =
    few-begun c.args.event c.args.p c.in-Some.s c.in-Some-life.a c.args.held c.args.len c.args.page (scene_of c.args.self.now c.args.trace.now)
    (scene_of c.begin_block.new.self c.begin_block.new.trace) (omega (arith, sizes.untold, within)) c.begin_block.ensures.exact in
    adds-within _ (omega (arith, few)) (adds-more c.begin_block.ensures.items c.go_to.ensures.items)
