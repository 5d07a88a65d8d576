-- Bounds that agree number by number.
use Rattle.std.proofs.Common.{◌≡◌, ◌∙◌, ap, ℕ, Bool, Option}
use Rattle.promised.specs.declared.bounds.PromisedBounds.{PromisedBounds}

abbrev bounds : (detection : Option ℕ) (is_late : Bool) (watched reliable lossy : ℕ) (needed : Option ℕ) → PromisedBounds
bounds detection is_late watched reliable lossy needed = record {
  detection = detection;
  is_late = is_late;
  watched = watched;
  reliable = reliable;
  lossy = lossy;
  needed = needed;
}

pub same_numbers : (b of : PromisedBounds) → b.detection ≡ of.detection → b.is_late ≡ of.is_late
    → b.watched ≡ of.watched → b.reliable ≡ of.reliable → b.lossy ≡ of.lossy → b.needed ≡ of.needed → b ≡ of
same_numbers b of p q r s t u =
    ap (λ x. bounds x b.is_late b.watched b.reliable b.lossy b.needed) p
    ∙ ap (λ x. bounds of.detection x b.watched b.reliable b.lossy b.needed) q
    ∙ ap (λ x. bounds of.detection of.is_late x b.reliable b.lossy b.needed) r
    ∙ ap (λ x. bounds of.detection of.is_late of.watched x b.lossy b.needed) s
    ∙ ap (λ x. bounds of.detection of.is_late of.watched of.reliable x b.needed) t
    ∙ ap (λ x. bounds of.detection of.is_late of.watched of.reliable of.lossy x) u
