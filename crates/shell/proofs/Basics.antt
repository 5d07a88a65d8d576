-- Words and lemmas of the libraries and of this crate that several proofs use.
pub use Rattle.std.proofs.Common.{Bor, Err, IfErr, IfSome, List, None, Ok, OnOk, Option, Result, Some, [], ap, append-nil, arith, drop, flat_map, get_or, inl, inr, length, length-append, refl, subst, suc, sym, take, ℕ, ◌++◌, ◌+◌, ◌<◌, ◌∙◌, ◌≡◌, ◌≢◌, ◌≤◌, ◌⊎◌}
pub use Rattle.std.proofs.lemmas.Grind.{common_steps, flat_map-append}
pub use Rattle.std.proofs.lemmas.List.{length-take, take-append-drop}
pub use Rattle.std.specs.Io.KnownBytes.{Consumes}
pub use Rattle.reporting.specs.Outlet.{Wrote, WroteNothing, WrotePart}
pub use Rattle.shell.specs.Ending.{End, Goes, HasStatus, IsWhy, LeftAt, MayHaveGone, Puts, Tells, Went, WentPart, begun, cut, untouched, TakesAtMost, most_bytes, Ends, GoesForWords, IsAsked, IsOfOrder, IsReason, Serves}
