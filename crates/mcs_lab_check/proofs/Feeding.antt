-- A replay that has taken what it was fed.
use Rattle.std.proofs.Common.{◌≡◌, ℕ, List, Ok, inl, inr, ap}
use Rattle.mcs_phases.specs.Feeds.{FeedState, Takes, answer_of, fed}

-- where no fault ended it, it took all
pub fed_whole : (old : FeedState) (bytes : List ℕ) (new : FeedState) → Takes old bytes new → answer_of new.course.fault ≡ Ok tt → new ≡ fed old bytes
fed_whole old bytes new (inl e) no_fault = e
fed_whole old bytes new (inr r) no_fault = let stopped = ap (λ (g : FeedState). answer_of g.course.fault) r.stopped in cc
