-- A line of the page, and what a page starts with, as the method's. Definitions only.
use Rattle.method.specs.Root.Paper as Paper
use Rattle.float.specs.declared.paper.Line.{Line}
use Rattle.float.specs.declared.paper.Start.{Start}

abbrev pub line_in : Line → Paper.Line
line_in l = Paper.line l.remainder l.trial l.root l.bit

abbrev pub start_in : Start → Paper.Start
start_in s = Paper.start s.number s.power
