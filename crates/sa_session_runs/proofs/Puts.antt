-- A value that is alike leaves all that is kept from move to move.
use Rattle.std.proofs.Common.{refl, sym, ◌∙◌, subst, List}
use Rattle.std.proofs.lemmas.List.{length-set}
use Rattle.sa_base.specs.declared.number.SpaceNo.{SpaceNo}
use Rattle.sa_spaces.specs.Workload.{WorkloadView}
use Rattle.sa_laws.specs.Event.{Event}
use Rattle.sa_core_model.specs.Machine.{Machine}
use Rattle.sa_core_model.specs.Run.{setting}
use Rattle.sa_core_model.specs.Standing.{contexts_of, Stands}
use Rattle.sa_core_model.proofs.Phases.{values-put}
use Rattle.sa_user_laws.specs.Level.{UserLevel}
use Rattle.sa_legal_runs.proofs.matching.Composed.{IsComposed, read}
use Rattle.sa_legal_runs.proofs.matching.Spaces.{fit-put, but-all}
use Rattle.sa_session_runs.specs.Sessions.{KeepsAlike, IsPut}

module _ {U C : Type 0} (level : UserLevel U C) (alike : U → U → Type 0) (keep : KeepsAlike level alike) where
  pub composed-put : (w : WorkloadView) (events : List Event) (m : Machine U C) (s : SpaceNo) (u : U) (after : Machine U C)
      → IsComposed level w events m → IsPut alike s u m after → IsComposed level w events after
  composed-put w events m s u after c put = subst (λ (z : Machine U C). IsComposed level w events z) (sym put.is) (record {
    between = record {
      standing = record {
        workload = st.workload;
        sound = st.sound;
        lives = st.lives;
        contexts = st.contexts;
        demands = st.demands;
        users = length-set m.users s.0 u ∙ st.users;
        there = st.there;
        values = values-put level.stands m.workload m.event m.users s.0 u (contexts_of m) (contexts_of m)
            (λ def of. keep.stands_alike (setting m.workload s.0 def) m.event put.before u (contexts_of m s.0) put.is_alike
            (st.values s.0 put.before def put.is_before of))
            (λ t apart b. refl) st.values;
      };
      fetched = c.between.fetched;
    };
    workload = c.workload;
    history = c.history;
    lawful = c.lawful;
    number = c.number;
    last = c.last;
    sized = c.sized;
    calm = c.calm;
    ios = c.ios;
    idle = c.idle;
    matched = c.matched;
    fit = fit-put level w (read level w events) s.0 m.users u (contexts_of m) (contexts_of m) (λ t apart b. refl)
        (λ def of. keep.fits_alike w (setting w s.0 def) (read level w events) put.before u (contexts_of m s.0) put.is_alike
        (c.fit s.0 put.before def put.is_before of))
        (but-all level w (read level w events) s.0 m.users (contexts_of m) c.fit);
  })
    where
      st : Stands level.stands m.event m
      st = c.between.standing
