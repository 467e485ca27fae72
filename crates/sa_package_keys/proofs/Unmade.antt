-- A thread that was not made is not done, and names no work list.
use Rattle.std.proofs.Common.{◌≡◌, ℕ, ◌≤◌, Bool, true, false, if◌then◌else◌, List, [], ◌∷◌, length, refl, ap, arith}
use Rattle.std.proofs.lemmas.Bool.{le-ltb}
use Rattle.sa_links.specs.Lists.{list_at}
use Rattle.sa_links.proofs.Counting.{count_at, first_counted}
use Rattle.sa_sync.specs.Sync.{is_done}
use Rattle.sa_fast.specs.declared.threads.KeptPlace.{KeptPlace}
use Rattle.sa_fast.specs.declared.threads.KeptPlace.TheVariants.{Unmade}
use Rattle.sa_fast.specs.Threads.{is_done as is_done_place}
use Rattle.sa_fast.specs.Rest.{unmade_at, done_at, one_where, is_unmade, place_at}
use Rattle.sa_abstract.specs.Setting.{Setting}
use Rattle.sa_abstract.specs.Calls.{Contexts}
use Rattle.sa_package_model.specs.declared.context.Context.{Context}
use Rattle.sa_package_model.specs.declared.package.Package.{Package}
use Rattle.sa_package_model.specs.Stands.{IsStanding}
use Rattle.sa_package_model.proofs.Holding.{rest_unlisted}
use Rattle.sa_package_keys.specs.Packages.{HasThreads, HasUnmade}

unmade_ends : (p : KeptPlace) (unmade done : ℕ) → unmade ≡ 1 → unmade ≡ one_where (is_unmade p) → done ≡ one_where (is_done_place p) → done ≡ 0
unmade_ends Unmade unmade done one new ends = ends
unmade_ends _ unmade done one new ends = absurd (let e : unmade ≡ 0 = new in omega arith)

not_done : (b : Bool) (n : ℕ) → n ≡ (if b then 1 else 0) → n ≡ 0 → b ≡ false
not_done true n is none = absurd (omega arith)
not_done false n is none = refl

module _ (s : Setting) (event : ℕ) (u : Package) (cs : Contexts Context) (h : IsStanding s event u cs) where
  unmade-one : (t : ℕ) → u.shared.state.lists.made ≤ t → unmade_at u.shared.state.lists t ≡ 1
  unmade-one t from = ap (λ b. if b then 0 else 1) (le-ltb t u.shared.state.lists.made from)

  unlisted-empty : (t : ℕ) → u.shared.state.lists.made ≤ t → (xs : List ℕ) → list_at u.shared.works t ≡ xs → list_at u.shared.works t ≡ []
  unlisted-empty t from [] is = is
  unlisted-empty t from (x ∷ xs) is =
      let some : length (list_at u.shared.works t) ≡ length (x ∷ xs) = ap length is in
      let here = first_counted (list_at u.shared.works t) t (h.parts.works.named.first t) (omega arith) in
      let all = count_at t u.shared.works t in
      let one = unmade-one t from in
      let none = rest_unlisted s event u cs h t (omega arith) in absurd (omega arith)

  pub has-unmade : HasUnmade u.shared
  has-unmade = record {
    done = λ t from.
        not_done (is_done u.shared.sync t) (done_at u.shared.sync t) refl
        (unmade_ends (place_at u.shared t) (unmade_at u.shared.state.lists t) (done_at u.shared.sync t) (unmade-one t from) (h.places t).new (h.places t).ends);
    works = λ t from. unlisted-empty t from (list_at u.shared.works t) refl;
  }
