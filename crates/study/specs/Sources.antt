-- The files of a study.
use Rattle.{std.specs.Prelude.{Option, option_map}, toml.specs.{Data.{Members}, View.{table_view}}, study.specs.declared.sources.Sources.{Sources}}

pub record SourcesRecord : Type 0 where
  -- what the scenario's file has
  pub scenario : Members
  -- what the network's file has, where there is one
  pub network : Option Members

abbrev pub sources_of : Sources → SourcesRecord
sources_of s = record { scenario = table_view s.scenario; network = option_map table_view s.network }
