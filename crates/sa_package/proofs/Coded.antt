-- What a step in the package's code is, by the answer of its operation.
use Rattle.std.proofs.Common.{◌≡◌, ◌+◌, ◌++◌, Some, None, length, slice_get, refl, sym, ap, ◌∙◌, subst}
use Rattle.sa_base.specs.Recorded.{Recorded}
use Rattle.sa_base.specs.Items.{items_at}
use Rattle.sa_base.specs.declared.limits.TheConstants.{PACKAGE_PAGE}
use Rattle.sa_base.specs.declared.context.Seen.{Seen}
use Rattle.sa_abstract.specs.declared.answer.Step.{Step}
use Rattle.sa_abstract.specs.declared.answer.Step.TheVariants.{Did, Block}
use Rattle.sa_code.specs.declared.state.PackageState.{PackageState}
use Rattle.sa_code.specs.declared.state.Frame.{Frame}
use Rattle.sa_code.specs.declared.state.MicroDone.{MicroDone}
use Rattle.sa_code.specs.declared.state.MicroDone.TheVariants as micros
use Rattle.sa_code.specs.Micro.{Micro, micro}
use Rattle.sa_fast.specs.declared.shared.Shared.{Shared}
use Rattle.sa_fast.specs.declared.threads.KeptPlace.TheVariants.{Blocked}
use Rattle.sa_package_model.specs.declared.package.Package.{Package}
use Rattle.sa_package_model.specs.declared.context.Context.{Context}
use Rattle.sa_package_model.specs.Rules.{Pair, pair, Steps, coded, coded_by, placed, put_last, settled, with_package, with_shared}

-- a package u, as v, whose operation leads to state s with this answer and this trace
module _ (u v : Package) (same : u ≡ v) (seen : Seen) (c : Context) (f : Frame) (s : PackageState) (done : MicroDone) (old new : Recorded)
    (state : s ≡ (micro u.shared.state f seen.pages).state) (is : done ≡ (micro u.shared.state f seen.pages).done)
    (items : new.items ≡ old.items ++ items_at seen.event seen.proc (micro u.shared.state f seen.pages).says)
    (spare : new.spare + length (micro u.shared.state f seen.pages).says ≡ old.spare) where
  abbrev made : Micro
  made = micro u.shared.state f seen.pages

  steps_by : (d : MicroDone) (p : Package) (e : Context) (answer : Step) → done ≡ d
      → Steps (coded_by u seen c f (slice_get u.shared.state.code f.pc) made d) seen old p e answer new → Steps (coded v seen c f) seen old p e answer new
  steps_by d p e answer told steps =
      subst (λ (x : Package). Steps (coded x seen c f) seen old p e answer new) same
      (subst (λ k. Steps (coded_by u seen c f (slice_get u.shared.state.code f.pc) made k) seen old p e answer new) (sym told ∙ is) steps)

  pub coded-spun : done ≡ micros.Spun → Steps (coded v seen c f) seen old (with_package u s) c Did new
  coded-spun told =
      steps_by micros.Spun (with_package u s) c Did told
      (record { user = ap (with_package u) state; ctx = refl; answers = refl; items = items; spare = spare })

  pub coded-faulted : (x : Shared) → x ≡ placed (record u.shared { state = s }) f.thread Blocked → done ≡ micros.Faulted
      → Steps (coded v seen c f) seen old (with_shared u x) c (Block u.fetch (Some PACKAGE_PAGE)) new
  coded-faulted x moved told =
      steps_by micros.Faulted (with_shared u x) c (Block u.fetch (Some PACKAGE_PAGE)) told (record {
        user = ap (with_shared u) (moved ∙ ap (λ t. placed (record u.shared { state = t }) f.thread Blocked) state);
        ctx = refl;
        answers = refl;
        items = items;
        spare = spare;
      })

  pub coded-left : (d : Context) → d ≡ settled (with_package u s) seen c f.thread → done ≡ micros.Left
      → Steps (coded v seen c f) seen old (with_package u s) d Did new
  coded-left d settles told =
      steps_by micros.Left (with_package u s) d Did told (record {
        user = ap (with_package u) state;
        ctx = settles ∙ ap (λ t. settled (with_package u t) seen c f.thread) state;
        answers = refl;
        items = items;
        spare = spare;
      })

  pub coded-yielded : (p : Package) (d e : Context) → pair p d ≡ put_last (with_package u s) c f.thread → e ≡ settled p seen d None
      → done ≡ micros.Yielded → Steps (coded v seen c f) seen old p e Did new
  coded-yielded p d e last settles told =
      let after : pair p d ≡ put_last (with_package u made.state) c f.thread = last ∙ ap (λ t. put_last (with_package u t) c f.thread) state in
      steps_by micros.Yielded p e Did told (record {
        user = ap (λ (q : Pair). q.user) after;
        ctx = settles ∙ ap (λ (q : Pair). settled q.user seen q.ctx None) after;
        answers = refl;
        items = items;
        spare = spare;
      })
