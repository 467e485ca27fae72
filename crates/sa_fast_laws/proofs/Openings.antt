-- The law of the opening, and that who is in is inside the package.
use Rattle.std.proofs.Common.{length-set, ◌≡◌, ◌≢◌, ℕ, true, List, [], ◌∷◌, Option, Some, None, IsSome, slice_index_or, replicate, reverse, length, refl, sym, ap, ◌∙◌, subst, inl, inr, arith}
use Rattle.std.proofs.lemmas.Bool.{cases_eq}
use Rattle.std.proofs.lemmas.List.{get_or-set_same, get_or-set_other, length-replicate}
use Rattle.sa_base.specs.declared.limits.TheConstants.{MAX_THREADS}
use Rattle.sa_base.specs.declared.number.ActNo.{ActNo}
use Rattle.sa_base.specs.declared.number.ProcNo.{ProcNo}
use Rattle.sa_spaces.specs.Workload.{WorkloadView}
use Rattle.sa_lemmas.proofs.ListReads.{all-same}
use Rattle.sa_lists.proofs.Changes.{no_rank, inserted_front}
use Rattle.sa_lists.specs.ReadyView.{inserted, no_threads, list_of}
use Rattle.sa_lists.specs.declared.ranks.Ranks.TheVariants.{One}
use Rattle.sa_abstract.specs.Calls.{Contexts}
use Rattle.sa_abstract.specs.Setting.{Setting, IsSetting}
use Rattle.sa_package_model.specs.Stands.{fast_stands}
use Rattle.sa_package_model.specs.Step.{fast_calls, started}
use Rattle.sa_package_model.specs.declared.context.Context.{Context}
use Rattle.sa_package_model.specs.declared.package.Package.{Package}
use Rattle.sa_laws.specs.Life.{Life}
use Rattle.sa_laws.specs.Readings.{Readings, life_of, opening_readings, first_listed}
use Rattle.sa_user_laws.specs.Scene.{Holds as HoldsNow, IsOfSpace}
use Rattle.sa_fast_laws.proofs.relation.ReadyOrders.{numbers-here, numbers-there}
use Rattle.sa_fast_laws.specs.FastFits.{numbers_in, FitsLists, fast_fits}
use Rattle.sa_fast_laws.proofs.lives.Openings.{opening-holds, opening-ready}

pub fast-inside : (w : WorkloadView) (s : Setting) (e : ℕ) (r : Readings) (u : Package) (cs : Contexts Context) (a : ActNo) (life : Life)
    → HoldsNow fast_stands w s e r u cs → fast_fits w s r u cs
    → life_of r a ≡ Some life → life.space ≡ s.space → life.inside ≡ true → IsSome (cs a.0)
fast-inside w s e r u cs a life h k is of inside = by (cs a.0) refl where
  by : (o : Option Context) → cs a.0 ≡ o → IsSome (cs a.0)
  by (Some c) at = subst IsSome (sym at) refl
  by None at = absurd (let bare = k.holds.others a life is of at in let no_such = sym bare.inside ∙ inside in cc)

-- list 0 at the opening
abbrev first_list : Setting → List ℕ
first_list s = inserted (started s).shared.state.lists.ranks 0 (slice_index_or (replicate s.processors []) 0 [])

pub fast-starts : (w : WorkloadView) (s : Setting) → IsOfSpace w s → IsSetting s
    → fast_fits w s (opening_readings w) (fast_calls.started s) (λ a. None)
fast-starts w s of set = record {
  holds = opening-holds One w s of;
  lists = subst (FitsLists (started s)) (sym (opening-ready One w s of)) (record { many = many_lists; ranks = no_ranks; numbers = lists_are });
  rest = λ a c life at its. absurd cc;
} where
  no_ranks : (started s).shared.state.lists.ranks ≡ []
  no_ranks = no_rank (no_threads s.processors One MAX_THREADS) 0 0 refl

  many_lists : length (started s).shared.state.lists.lists ≡ s.processors
  many_lists = length-set (replicate s.processors []) 0 (first_list s) ∙ length-replicate s.processors []

  lists_are : (l : ProcNo) → numbers_in (first_listed ∷ []) l ≡ reverse (list_of (started s).shared.state.lists l.0)
  lists_are l = elim (cases_eq 0 l.0) [
    | inl same ↦ numbers-here first_listed l same ∙ ap reverse (sym (ap (list_of (started s).shared.state.lists) (sym same) ∙ list_here))
    | inr ne ↦ numbers-there first_listed l ne ∙ ap reverse (sym (list_there l.0 (λ z. ne (sym z))))
  ] where
    list_here : list_of (started s).shared.state.lists 0 ≡ 0 ∷ []
    list_here =
        get_or-set_same (replicate s.processors []) 0 (first_list s) []
        (let all = length-replicate {A = List ℕ} s.processors [] in let some = set.some_processor in omega arith)
        ∙ ap (λ rs. inserted rs 0 (slice_index_or (replicate s.processors []) 0 [])) no_ranks
        ∙ inserted_front 0 (slice_index_or (replicate s.processors []) 0 [])
        ∙ ap (λ xs. 0 ∷ xs) (all-same s.processors 0 [])

    list_there : (n : ℕ) → n ≢ 0 → list_of (started s).shared.state.lists n ≡ []
    list_there n ne = get_or-set_other (replicate s.processors []) 0 n (first_list s) [] ne ∙ all-same s.processors n []
