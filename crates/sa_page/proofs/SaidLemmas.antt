-- The items of a trace are said one after another, each with what is known of the lives and the programs after those before it.
use Rattle.std.proofs.Common.{◌≡◌, ℕ, suc, Bool, ◌+◌, ◌<◌, ◌≤◌, List, ◌++◌, length, drop, get_or, Option, sym, ap, ◌∙◌, append_assoc, add-one, drop-cons}
use Rattle.std.proofs.lemmas.List.{append-nil, drop_all}
use Rattle.sa_base.specs.declared.record.Item.{Item}
use Rattle.sa_instr.specs.declared.instr.Instr.{Instr}
use Rattle.sa_spaces.specs.Workload.{WorkloadView}
use Rattle.sa_check_lives.specs.View.{LivesView}
use Rattle.sa_page.specs.Page.{in_copy_on, lives_behind, item_text, items_text}
use Rattle.sa_programs.specs.Programs.{instr_in, programs_by, programs_after}

-- one item more
pub said-more :
    (w : WorkloadView) (v next : LivesView) (programs later : List (List ℕ)) (items : List Item) (i : ℕ) (d : Item) (in_copy : Bool) (instr : Option Instr)
    (out more whole : List ℕ) → i < length items → in_copy ≡ in_copy_on v (get_or items i d).proc → instr ≡ instr_in w programs (get_or items i d).what
    → next ≡ lives_behind v (get_or items i d) → later ≡ programs_by programs (get_or items i d).what instr
    → more ≡ out ++ item_text in_copy instr (get_or items i d) → out ++ items_text w v programs (drop i items) ≡ whole
    → more ++ items_text w next later (drop (i + 1) items) ≡ whole
said-more w v next programs later items i d in_copy instr out more whole within known runs goes forks written so =
    let x : Item = get_or items i d in
    let behind : List (List ℕ) = programs_after w programs x.what in
    let rest : List ℕ = items_text w (lives_behind v x) behind (drop (suc i) items) in
    ap (λ (u : LivesView). more ++ items_text w u later (drop (i + 1) items)) goes
    ∙ ap (λ (ps : List (List ℕ)). more ++ items_text w (lives_behind v x) ps (drop (i + 1) items)) (forks ∙ ap (programs_by programs x.what) runs)
    ∙ ap (λ (k : ℕ). more ++ items_text w (lives_behind v x) behind (drop k items)) (add-one i)
    ∙ ap (λ (xs : List ℕ). xs ++ rest) written
    ∙ ap (λ (b : Bool). (out ++ item_text b instr x) ++ rest) known
    ∙ ap (λ (o : Option Instr). (out ++ item_text (in_copy_on v x.proc) o x) ++ rest) runs
    ∙ append_assoc out (item_text (in_copy_on v x.proc) (instr_in w programs x.what) x) rest
    ∙ ap (λ (xs : List Item). out ++ items_text w v programs xs) (sym (drop-cons items i d within))
    ∙ so

-- nothing is left
pub said-all :
    (w : WorkloadView) (v : LivesView) (programs : List (List ℕ)) (items : List Item) (i : ℕ) (out whole : List ℕ) → length items ≤ i
    → out ++ items_text w v programs (drop i items) ≡ whole → out ≡ whole
said-all w v programs items i out whole all so =
    sym (append-nil out) ∙ ap (λ (xs : List Item). out ++ items_text w v programs xs) (sym (drop_all i items all)) ∙ so
