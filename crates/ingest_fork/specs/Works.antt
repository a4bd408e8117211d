-- What becomes of jobs that workers do, each job with a keeper of its own.
use Rattle.std.specs.Prelude.{◌≡◌, ℕ, ◌+◌, List, ◌∷◌, ◌++◌, length, Some, slice_get}

module _ {W : Type 0} (ready : W → Type 0) where
  -- each worker is between two jobs
  abbrev pub AllReady : List W → Type 0
  AllReady ws = (n : ℕ) (w : W) → slice_get ws n ≡ Some w → ready w

module _ {J : Type 0} where
  -- The two lists are consecutive pieces of the others, both from the same place on.
  pub record ArePieces (js js' piece piece' : List J) : Type 0 where
    pub before : List J
    pub before' : List J
    pub behind : List J
    pub behind' : List J
    pub cut : js ≡ before ++ (piece ++ behind)
    pub cut' : js' ≡ before' ++ (piece' ++ behind')
    pub even : length before' ≡ length before
    pub same : length piece' ≡ length piece

  -- The job at the place i is one of a piece of these lists: `front` stands before it in the piece, and `rest` behind it.
  pub record IsInPiece (js js' : List J) (i : ℕ) (j j' : J) (front front' rest rest' : List J) : Type 0 where
    pub before : List J
    pub before' : List J
    pub behind : List J
    pub behind' : List J
    pub cut : js ≡ before ++ (front ++ (j ∷ (rest ++ behind)))
    pub cut' : js' ≡ before' ++ (front' ++ (j' ∷ (rest' ++ behind')))
    pub even : length before' ≡ length before
    pub same : length front' ≡ length front
    pub too : length rest' ≡ length rest
    pub place : i ≡ length before + length front

-- `went js js' a b` says of a worker that it did nothing but some of the jobs js, which became js'.
module _ {W J : Type 0} (went : List J → List J → W → W → Type 0) where
  -- who did nothing did nothing but these jobs
  abbrev pub Rests : (W → Type 0) → Type 0
  Rests ready = (js js' : List J) (w : W) → ready w → went js js' w w

  abbrev pub GoesOn : Type 0
  GoesOn = (js js' : List J) (a b c : W) → went js js' a b → went js js' b c → went js js' a c

  -- who did nothing but a piece of the jobs did nothing but the jobs
  abbrev pub Widens : Type 0
  Widens = (js js' piece piece' : List J) (a b : W) → ArePieces js js' piece piece' → went piece piece' a b → went js js' a b

  -- what it may do it may do later
  abbrev pub FitsOn : {K : Type 0} → (W → J → K → Type 0) → Type 0
  FitsOn {K} fits = (js js' : List J) (a b : W) (j : J) (k : K) → went js js' a b → fits a j k → fits b j k

module _ {W J K : Type 0} where
  -- each worker may do each job with that job's keeper
  abbrev pub AllFit : (W → J → K → Type 0) → List W → List J → List K → Type 0
  AllFit fits ws js ks = (n i : ℕ) (w : W) (j : J) (k : K)
      → slice_get ws n ≡ Some w → slice_get js i ≡ Some j → slice_get ks i ≡ Some k → fits w j k

module _ {W J K : Type 0} (went : List J → List J → W → W → Type 0) (did : W → J → K → W → J → K → Type 0) where
  -- One of the workers did the job at the place i with its keeper, as one of a piece: until then it had done nothing but the jobs
  -- of it before this one, and afterwards nothing but those behind it.
  pub record Done (ws ws' : List W) (js js' : List J) (ks' : List K) (i : ℕ) (j : J) (k : K) : Type 0 where
    pub place : ℕ
    pub first : W
    pub last : W
    pub first_is : slice_get ws place ≡ Some first
    pub last_is : slice_get ws' place ≡ Some last
    pub job : J
    pub keeper : K
    pub job_is : slice_get js' i ≡ Some job
    pub keeper_is : slice_get ks' i ≡ Some keeper
    pub front : List J
    pub front' : List J
    pub rest : List J
    pub rest' : List J
    pub of_piece : IsInPiece js js' i j job front front' rest rest'
    pub before : W
    pub after : W
    pub came : went front front' first before
    pub did_it : did before j k after job keeper
    pub goes : went rest rest' after last

  -- each job was done, at its place
  pub record AllDone (ws ws' : List W) (js js' : List J) (ks ks' : List K) : Type 0 where
    pub jobs : length js' ≡ length js
    pub keepers : length ks' ≡ length ks
    pub each : (i : ℕ) (j : J) (k : K) → slice_get js i ≡ Some j → slice_get ks i ≡ Some k → Done ws ws' js js' ks' i j k

module _ {W J : Type 0} (ready : W → Type 0) (went : List J → List J → W → W → Type 0) where
  -- the worker at the place n is ready again, and did nothing but a consecutive piece of the jobs
  pub record Went (js js' : List J) (w : W) (ws' : List W) (n : ℕ) : Type 0 where
    pub worker : W
    pub worker_is : slice_get ws' n ≡ Some worker
    pub ready_now : ready worker
    pub piece : List J
    pub piece' : List J
    pub are : ArePieces js js' piece piece'
    pub went_to : went piece piece' w worker

  -- each worker did so
  pub record AllWent (js js' : List J) (ws ws' : List W) : Type 0 where
    pub workers : length ws' ≡ length ws
    pub each : (n : ℕ) (w : W) → slice_get ws n ≡ Some w → Went js js' w ws' n
