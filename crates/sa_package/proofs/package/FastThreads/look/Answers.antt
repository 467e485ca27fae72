use Rattle.std.proofs.Common.{◌≡◌, ℕ, ◌+◌, length, Option, Some, None, refl, sym, ap, ◌∙◌, subst, append-nil, arith, rules}
use Rattle.std.proofs.lemmas.List.{length_push}
use Rattle.std.specs.Option.{option_map}
use Rattle.sa_lists.specs.ReadyView.{processor, sought}
use Rattle.sa_base.specs.declared.number.ProcNo.{ProcNo}
use Rattle.sa_abstract.specs.declared.answer.Step.TheVariants.{Did, Idle}
use Rattle.sa_package_model.specs.declared.context.ContextState.TheVariants.{Look}
use Rattle.sa_package_model.specs.Rules.{Steps, at_state, is_idle, looked_by, own_list}
use Rattle.sa_package_model.specs.declared.package.Package.{Package}
use Rattle.sa_package.proofs.Carried.{sought-inside}
use Rattle.sa_package.proofs.package.FastThreads.look.Goals as goal

pub begin_pop-requires-clause-list : goal.begin_pop-requires-clause-list
begin_pop-requires-clause-list c =
    let p = (own_list c.args.self.now c.args.seen.now.proc).0 in
    let found = ap (λ (u : Package). option_map processor (sought u.shared.state.lists p)) c.self.view_is in
    let at = ap (λ (q : ProcNo). option_map processor (sought c.self.inside.package.shared.state.lists q.0)) c.own_list-own.ensures in
    sought-inside c.args.self.now.shared.state.lists p c.in-Some.list c.requires.proc (c.in-Some.ensures ∙ at ∙ found)

-- `seek` gives no list where none is open
no_list : (found : Option ℕ) → option_map processor found ≡ None → found ≡ None
no_list None is = refl
no_list (Some l) is = absurd cc

pub returns-then-is_idle : goal.returns-then-is_idle
returns-then-is_idle c =
    let a = c.args in
    let u = a.self.now in
    let seen = a.seen.now in
    let ctx = a.ctx.now in
    let found : option_map processor (sought c.self.inside.package.shared.state.lists c.own_list-own.result.0) ≡ None = search rules in
    let none = sym (ap (λ (q : ProcNo). sought c.self.inside.package.shared.state.lists q.0) c.own_list-own.ensures
    ∙ ap (λ (v : Package). sought v.shared.state.lists (own_list u seen.proc).0) c.self.view_is) ∙ no_list _ found in
    let idle = sym c.is_idle.ensures ∙ c.if-is_idle.true in
    subst (λ s. Steps s seen a.trace.now u ctx Idle a.trace.now)
    (sym (ap (looked_by u seen ctx a.looks (is_idle u seen a.looks)) none ∙ ap (λ b. looked_by u seen ctx a.looks b None) idle)) (record {
      user = refl;
      ctx = refl;
      answers = refl;
      items = sym (append-nil a.trace.now.items);
      spare = omega arith;
    })

pub returns : goal.returns
returns c =
    let a = c.args in
    let u = a.self.now in
    let seen = a.seen.now in
    let ctx = a.ctx.now in
    let found : option_map processor (sought c.self.inside.package.shared.state.lists c.own_list-own.result.0) ≡ None = search rules in
    let none = sym (ap (λ (q : ProcNo). sought c.self.inside.package.shared.state.lists q.0) c.own_list-own.ensures
    ∙ ap (λ (v : Package). sought v.shared.state.lists (own_list u seen.proc).0) c.self.view_is) ∙ no_list _ found in
    let idle = sym c.is_idle.ensures ∙ c.if-is_idle.false in
    let longer : length c.say.new.self.items ≡ length a.trace.now.items + 1 = ap length c.say.ensures.items ∙ length_push a.trace.now.items _ in
    let spare : c.say.new.self.spare + 1 ≡ a.trace.now.spare = omega (arith, longer, c.say.ensures.room.same) in
    subst (λ s. Steps s seen a.trace.now u (at_state ctx (Look c.min.result)) Did c.say.new.self)
    (sym (ap (looked_by u seen ctx a.looks (is_idle u seen a.looks)) none ∙ ap (λ b. looked_by u seen ctx a.looks b None) idle)) (record {
      user = refl;
      ctx = ap (λ n. at_state ctx (Look n)) c.min.ensures;
      answers = refl;
      items = c.say.ensures.items;
      spare = spare;
    })
