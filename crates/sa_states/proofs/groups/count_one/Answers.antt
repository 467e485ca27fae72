use Rattle.std.proofs.Common.{◌≡◌, ℕ, ◌+◌, List, map, Some, None, option_map, get_or, slice_get, inl, inr, sym, ap, ◌∙◌}
use Rattle.std.proofs.lemmas.List.{map-set, map-append}
use Rattle.std.proofs.lemmas.Option.{slice_get-map}
use Rattle.std.specs.Str.{bytes_eq}
use Rattle.std.specs.Cmp.Lexicographic.{bytes_decides}
use Rattle.sa_states.specs.declared.groups.Group.{Group}
use Rattle.sa_states.specs.Groups.{group_of, place_of}
use Rattle.sa_states.proofs.Firsts.{first-at}
use Rattle.sa_states.proofs.Counted.{none-there}
use Rattle.sa_states.proofs.groups.count_one.Goals as goal

pub returns-in-Some : goal.returns-in-Some
returns-in-Some c =
    let old = c.args.groups.now.items in
    let key = c.args.key.items in
    let place : ℕ = c.in-Some.place in
    let group : Group = c.index_mut.result.now in
    let found : place_of key old ≡ Some place =
    sym (c.in-Some.ensures ∙ ap (place_of c.as_slice-2.result.now) c.as_slice.ensures.value ∙ ap (λ (k : List ℕ). place_of k old) c.as_slice-2.ensures.value) in
    let at = first-at (λ (g : Group). bytes_eq g.key.items key) old place group found in
    let value : group ≡ get_or old place group = c.index_mut.ensures.value in
    let there : slice_get old place ≡ Some group = at.0 ∙ ap (λ (g : Group). Some g) (sym value) in
    inl (record {
      place = place;
      group = group_of group;
      is = slice_get-map group_of old place ∙ ap (option_map group_of) there;
      same = (bytes_decides group.key.items key).0 (ap (λ (g : Group). bytes_eq g.key.items key) value ∙ at.1);
      after = map-set group_of old place (record { key = group.key; first = group.first; states = group.states + 1 });
    })

pub returns-in_ok-push-in-None : goal.returns-in_ok-push-in-None
returns-in_ok-push-in-None c =
    let old = c.args.groups.now.items in
    let key = c.args.key.items in
    let none : place_of key old ≡ None =
    sym (c.in-None.ensures ∙ ap (place_of c.as_slice-2.result.now) c.as_slice.ensures.value ∙ ap (λ (k : List ℕ). place_of k old) c.as_slice-2.ensures.value) in
    inr (record {
      absent = none-there key old none;
      after = ap (map group_of) c.in_ok-push-in-None.ensures.items ∙ map-append group_of old _;
    })
