-- The workers of an ingest, and the passes that they have of the two books.
use Rattle.std.specs.Prelude.{◌≡◌, ℕ, List, [], ◌∷◌, length, map, Some, slice_get}
use Rattle.turn_lock.specs.declared.grows.Grows.{Ghosts}
use Rattle.turn_lock.specs.declared.maker.Maker.{Maker}
use mathlib.Core.List.{IsPrefix}
use Rattle.turn_lock.specs.History.{StandsIn}
use Rattle.turn_lock.specs.Words.{about_by, lock_by, own_list, seen, seen_by, HasJoinedAll}
use Rattle.dict_core.specs.Books.{BookState}
use Rattle.dict_lock.specs.Shared.{BookPass}
use Rattle.ingest_fork.specs.Passes.{Fresh, Joined, AreJoinable}
use Rattle.ingest_fork.specs.Picked.{NoneAdded}
use Rattle.ingest_workers.specs.declared.worker.Plan.{Plan}
use Rattle.ingest_workers.specs.declared.worker.Worker.{Worker}
use Rattle.ingest_workers.specs.Worker.{types_of, words_of}

abbrev pub BookMaker : Ghosts BookState (List ℕ) ℕ → Type 0
BookMaker G = Maker BookState (List ℕ) ℕ G

-- all workers have this plan
abbrev pub HavePlan : Plan → List Worker → Type 0
HavePlan plan ws = (i : ℕ) (w : Worker) → slice_get ws i ≡ Some w → w.plan ≡ plan

module _ {G : Ghosts BookState (List ℕ) ℕ} where
  -- so many workers have the next passes of both makers
  pub record HasEnrolled (types types' words words' : BookMaker G) (plan : Plan) (ws : List Worker) (count : ℕ) : Type 0 where
    pub counted : length ws ≡ count
    pub planned : HavePlan plan ws
    pub of_types : Fresh types types' (map types_of ws) count
    pub of_words : Fresh words words' (map words_of ws) count

  -- the makers may join the passes of the workers
  pub record MayDismiss (types words : BookMaker G) (ws : List Worker) : Type 0 where
    pub of_types : AreJoinable types (map types_of ws)
    pub of_words : AreJoinable words (map words_of ws)

  -- the makers joined the passes of the workers from that place on
  pub record HasDismissed (types types' words words' : BookMaker G) (ws : List Worker) (from : ℕ) : Type 0 where
    pub of_types : Joined types types' (map types_of ws) from
    pub of_words : Joined words words' (map words_of ws) from

  -- the makers joined the passes of the store, and then those of the workers
  pub record HasEnded (types types' words words' : BookMaker G) (types_reader words_reader : BookPass)
      (ws : List Worker) : Type 0 where
    pub types_middle : BookMaker G
    pub words_middle : BookMaker G
    pub types_read : Joined types types_middle (types_reader ∷ []) 0
    pub words_read : Joined words words_middle (words_reader ∷ []) 0
    pub dismissed : HasDismissed types_middle types' words_middle words' ws 0

  -- The maker joined each pass that it made: first some that added nothing, and then those that added none but such texts. It has
  -- seen all that the reader has.
  pub record EndsBook (P : List ℕ → Type 0) (m m' : BookMaker G) (reader : BookPass) : Type 0 where
    pub lock : lock_by m' ≡ lock_by m
    pub about_is : about_by m' ≡ about_by m
    pub all : HasJoinedAll m'
    pub seen_on : IsPrefix (seen reader) (seen_by m')
    pub middle : BookMaker G
    pub passes : List BookPass
    pub joined : Joined middle m' passes 0
    pub none : NoneAdded middle
    pub each : (i : ℕ) (p : BookPass) → slice_get passes i ≡ Some p → (j : ℕ) (t : List ℕ) → StandsIn (own_list p) j t → P t
