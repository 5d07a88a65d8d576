-- What a watcher was told: of one more point, or of nothing more.
use Rattle.sweep.proofs.{Words.{ℕ, List, [], ◌∷◌, ◌++◌, ◌≡◌, refl, sym, subst, not, ◌==◌, append-nil, filter-append, HaveJoined, joined_then, SourcesRecord, GridRecord, AreLimited, HeardLimits, HeardSomeLimits, told_of}, Zipped.{zip_push}}

module _ {W : Type 0} (heard : W → List (ℕ × ℕ) → W → Type 0) (sources : SourcesRecord) (g : GridRecord) (old now new : W) (points : List ℕ) where
  pub heard_after : HaveJoined heard old now [] → HeardLimits heard now new sources g points → HeardLimits heard old new sources g points
  heard_after same up = record {
    counts = up.counts;
    counted = up.counted;
    told = joined_then heard old now new [] (told_of up.counts) same up.told;
  }

  pub heard_same : HeardLimits heard old now sources g points → HaveJoined heard now new [] → HeardLimits heard old new sources g points
  heard_same up same = record {
    counts = up.counts;
    counted = up.counted;
    told = subst (HaveJoined heard old new) (append-nil (told_of up.counts)) (joined_then heard old now new (told_of up.counts) [] up.told same);
  }

  pub heard_point : HeardLimits heard old now sources g points → (point count : ℕ) → AreLimited sources g point count
      → HaveJoined heard now new (told_of ((point, count) ∷ [])) → HeardLimits heard old new sources g (points ++ point ∷ [])
  heard_point up point count are said = record {
    counts = up.counts ++ (point, count) ∷ [];
    counted = zip_push (λ point entry. (entry.0 ≡ point) × AreLimited sources g point entry.1) points up.counts point (point, count) up.counted (refl, are);
    told = subst (HaveJoined heard old new) (sym (filter-append (λ entry. not (entry.1 == 0)) up.counts ((point, count) ∷ [])))
        (joined_then heard old now new (told_of up.counts) (told_of ((point, count) ∷ [])) up.told said);
  }

-- of no point yet
pub heard_none : {W : Type 0} (heard : W → List (ℕ × ℕ) → W → Type 0) (sources : SourcesRecord) (g : GridRecord) (old new : W) (points : List ℕ)
    → HaveJoined heard old new [] → HeardSomeLimits heard old new sources g points
heard_none heard sources g old new points same = (0, record { counts = []; counted = tt; told = same })
