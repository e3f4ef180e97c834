-- The most pages that an analysis of a test uses at once.
--     opening_pages   the pages with which a test begins: the zero page, and each page of the opening bytes that isn't all zero
--     IsPeak          at least those, and at most those with one for each page that a counted step writes
use Rattle.std.specs.Prelude.{ℕ, ◌+◌, ◌≤◌}
use Rattle.code_form.specs.declared.code.Code.{Code}
use Rattle.traces.specs.Trace.{Trial}
use Rattle.traces.specs.Work.{load}
use Rattle.machine_form.specs.declared.change.Change.{Change}
use Rattle.machine_form.specs.Start.{opening_bytes}
use Rattle.machine_form.specs.State.{State}
use Rattle.shared_pages.specs.Opening.{full_count}

abbrev pub opening_pages : Code → ℕ
opening_pages code = 1 + full_count (opening_bytes code)

pub record IsPeak (code : Code) (T : Trial State Change) (peak : ℕ) : Type 0 where
  pub least : opening_pages code ≤ peak
  pub most : peak ≤ opening_pages code + load T
