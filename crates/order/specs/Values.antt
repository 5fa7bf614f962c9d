-- What the ordered call answers, as the method's report. Definitions only.
use Rattle.std.specs.Prelude.{Result, Ok, Err}
use Rattle.method.specs.Checks.{refusal, nowhere}
use Rattle.method.specs.Report as Report
use Rattle.method.specs.Ordered.{refused_after}
use Rattle.svd.specs.declared.report.Report.{Report}
use Rattle.svd.specs.Values.{report_of}
use Rattle.order.specs.declared.ordered.Unordered.{Unordered}
use Rattle.order.specs.declared.ordered.Unordered.TheVariants.{Refused, NotSettled, NotFinite}

-- what the call answers: what it reports, or why values are not in order
abbrev pub OrderedAnswer : Type 0
OrderedAnswer = Result Report Unordered

-- why they are not, by the report that it tells: 12 and 13 tell the run's besides
abbrev pub unordered_report : Unordered → Report.Report
unordered_report (Refused e) = report_of (Err e)
unordered_report (NotSettled r) = refused_after (refusal 12 nowhere) (report_of (Ok r))
unordered_report (NotFinite r) = refused_after (refusal 13 nowhere) (report_of (Ok r))

-- the report that an answer tells
abbrev pub ordered_report : OrderedAnswer → Report.Report
ordered_report (Ok r) = report_of (Ok r)
ordered_report (Err e) = unordered_report e

-- the report of a run that was judged
abbrev pub judged : {A : Type 0} → Report → Result A Unordered → Report.Report
judged r (Ok a) = report_of (Ok r)
judged r (Err e) = unordered_report e
