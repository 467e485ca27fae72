-- Counting the records of each kind, item by item.
use Rattle.std.proofs.Common.{◌≡◌, ◌≢◌, ℕ, ◌+◌, ◌<◌, List, length, get_or, set, take, sym, ◌∙◌, ap, inl, inr, arith, get_or-set_same, get_or-set_other}
use Rattle.std.proofs.lemmas.Bool.Decides.{eqb_tells}
use Rattle.std.proofs.lemmas.List.Sums.{count_by_more_yes, count_by_more_no}
use Rattle.std.specs.Prelude.{◌==◌}
use Rattle.sa_base.specs.declared.record.Item.{Item}
use Rattle.sa_trace.specs.TraceText.{kind_number, count_of_kind}

-- one more item, whose kind's count is raised, keeps each count; the count of the kind k + 1 is at the place k
pub count-more : (items : List Item) (i place k : ℕ) (counts : List ℕ) (d : Item) → i < length items
    → place + 1 ≡ kind_number (get_or items i d).what → place < length counts
    → get_or counts k 0 ≡ count_of_kind (take i items) (k + 1)
    → get_or (set counts place (get_or counts place 0 + 1)) k 0 ≡ count_of_kind (take (i + 1) items) (k + 1)
count-more items i place k counts d within is below so_far =
    elim (eqb_tells (kind_number (get_or items i d).what) (k + 1)) [
      | inl same ↦
          let at : place ≡ k = omega (arith, is, same.1) in
          ap (λ n. get_or (set counts n (get_or counts n 0 + 1)) k 0) at
          ∙ get_or-set_same counts k (get_or counts k 0 + 1) 0 (omega arith)
          ∙ ap (λ n. n + 1) so_far
          ∙ sym (count_by_more_yes (λ (x : Item). kind_number x.what == k + 1) items i d within same.0)
      | inr other ↦
          let apart : k ≢ place = λ e. other.1 (sym is ∙ ap (λ n. n + 1) (sym e)) in
          get_or-set_other counts place k (get_or counts place 0 + 1) 0 apart
          ∙ so_far
          ∙ sym (count_by_more_no (λ (x : Item). kind_number x.what == k + 1) items i d within other.0)
    ]
