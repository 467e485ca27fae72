-- In a legal trace I/Os are numbered from 0 in the order of their block and fetch records.
use Rattle.std.proofs.Common.{◌≡◌, ℕ, ◌+◌, refl, sym, ◌∙◌, ap, arith, List, [], ◌∷◌, ◌++◌}
use Rattle.std.specs.Prelude.{Option, Bool, true, false, if◌then◌else◌}
use Rattle.sa_base.specs.declared.number.SpaceNo.{SpaceNo}
use Rattle.sa_base.specs.declared.number.ProcNo.{ProcNo}
use Rattle.sa_base.specs.declared.number.ThreadNo.{ThreadNo}
use Rattle.sa_base.specs.declared.number.ActNo.{ActNo}
use Rattle.sa_base.specs.declared.number.IoNo.{IoNo}
use Rattle.sa_base.specs.declared.record.Record.{Record}
use Rattle.sa_base.specs.declared.record.Record.TheVariants.{Block, Fetch}
use Rattle.sa_base.specs.declared.record.Item.{Item}
use Rattle.sa_spaces.specs.Workload.{WorkloadView}
use Rattle.sa_laws.specs.Readings.{Readings}
use Rattle.sa_laws.specs.Record.{io_count_after}
use Rattle.sa_laws.specs.History.{Test}
use Rattle.sa_laws.specs.Upcalls.{GivesUpcallThen}
use Rattle.sa_laws.specs.Rules.{UserRules}
use Rattle.sa_laws.specs.Legal.{IsLegal}
use Rattle.sa_promises.specs.Words.{begins_io, ios_begun}
use Rattle.sa_promises.specs.Headline.{BlocksNameTheirIo}
use Rattle.sa_histories.proofs.Walk.{IsKept, item}
use Rattle.sa_histories.proofs.Traces.{good-at}

pub ios-more : (past : List Item) (x : Item) → ios_begun (past ++ x ∷ []) ≡ ios_begun past + (if begins_io x.what then 1 else 0)
ios-more [] x = one (begins_io x.what) where
  one : (b : Bool) → (if b then 1 else 0) + 0 ≡ 0 + (if b then 1 else 0)
  one true = refl
  one false = refl
ios-more (y ∷ ys) x =
    let more = ios-more ys x in omega arith

pub begun-more : (n : ℕ) (x : Record) → io_count_after n x ≡ n + (if begins_io x then 1 else 0)
begun-more n (Block s t a io) = refl
begun-more n (Fetch s) = refl
begun-more n x = omega arith

abbrev pub IosCounted : List Item → Readings → Type 0
IosCounted past r = r.io_count ≡ ios_begun past

abbrev pub NamesItsIo : List Item → Item → Type 0
NamesItsIo past x = (s : SpaceNo) (t : Option ThreadNo) (a : ActNo) (io : IoNo) → x.what ≡ Block s t a io → io.0 ≡ ios_begun past

names-io : (e : ℕ) (p : ProcNo) (past : List Item) (r : Readings) (x : Record) (rest : List Record) → IosCounted past r → GivesUpcallThen p r x rest
    → NamesItsIo past (item e p x)
names-io e p past r (Block of u b named) rest inv law s t a io is =
    let same : named.0 ≡ io.0 = cc in
    sym same ∙ law.number ∙ inv
names-io e p past r x rest inv law s t a io is = absurd (cc)

ios-kept : (test : Test) (w : WorkloadView) → IsKept test w GivesUpcallThen IosCounted (λ e p. IosCounted) NamesItsIo
ios-kept test w = record {
  step =
      λ e p past r x rest inv law. (
        begun-more r.io_count x ∙ ap (λ n. n + (if begins_io x then 1 else 0)) inv
            ∙ sym (ios-more past (item e p x)),
        names-io e p past r x rest inv law,
      );
  begins = λ past r e inv. inv;
  ends = λ past before e r inv. inv;
}

pub blocks-name-their-io : (u : UserRules) (w : WorkloadView) (items : List Item) → IsLegal u w items → BlocksNameTheirIo items
blocks-name-their-io u w items legal j s t a io stands =
    good-at u w items GivesUpcallThen IosCounted (λ e p. IosCounted) NamesItsIo legal (ios-kept u.inside w)
    (λ r e law. law.upcall_given.blocks) refl j stands.item stands.at
    s t a io stands.what
