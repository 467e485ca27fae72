use Rattle.std.proofs.Common.{◌≡◌, ◌++◌, [], Option, Some, None, slice_get, ◌∙◌, sym, ap, refl, subst, append-nil, OnOk}
use Rattle.std.specs.Option.{option_map, unwrap_or}
use Rattle.std.proofs.lemmas.Bool.{ltb-true, ltb-false}
use Rattle.std.proofs.lemmas.Option.{slice_get_past, slice_get_read}
use Rattle.toga_source.specs.Names.{NamesView}
use Rattle.toga_say.specs.Scene.{SceneView}
use Rattle.toga_say.specs.Values.{semaphores_in}
use Rattle.toga_say.proofs.values.add_semaphores_at.Goals as goal

pub returns-in-None : goal.returns-in-None
returns-in-None c =
    let old = c.args.entries.now.items in
    let names = c.scene.inside.names.now in
    let none : slice_get names c.from.result ≡ None =
    slice_get_past names c.from.result (ltb-false c.from.result _ (sym c.in-None.ensures.lookup.0)) in
    sym (append-nil old) ∙ ap (λ (own : Option NamesView). old ++ unwrap_or (option_map (semaphores_in c.args.scene.now c.args.s) own) [])
    (sym none ∙ ap (slice_get names) c.from.ensures ∙ ap (λ (scene : SceneView). slice_get scene.names c.args.s.0) c.scene.view_is)

pub returns-in-Some : goal.returns-in-Some
returns-in-Some c =
    let names = c.scene.inside.names.now in
    let read : slice_get names c.from.result ≡ Some c.in-Some.own.now =
    slice_get_read names _ c.from.result c.in-Some.own.now refl (ltb-true c.from.result _ (sym c.in-Some.ensures.lookup.0)) c.in-Some.ensures.lookup.1 in
    subst (λ (own : Option NamesView).
    OnOk c.add_semaphores.result (c.add_semaphores.new.entries.items
    ≡ c.args.entries.now.items ++ unwrap_or (option_map (semaphores_in c.args.scene.now c.args.s) own) []))
    (sym read ∙ ap (slice_get names) c.from.ensures ∙ ap (λ (scene : SceneView). slice_get scene.names c.args.s.0) c.scene.view_is)
    c.add_semaphores.ensures
