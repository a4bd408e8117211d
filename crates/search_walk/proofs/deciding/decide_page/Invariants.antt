use Rattle.std.proofs.Common.{◌≡◌, ◌≤◌, length, take, vec_capacity, vec_len}
use Rattle.subquery_filter.specs.Filter.{NoneCounts}
use Rattle.subquery_filter.specs.Page.{IsPage}
use Rattle.search_walk.specs.Ready.{AreDecided}
use Rattle.search_walk.proofs.CountLemmas.{before}
use Rattle.search_walk.proofs.deciding.decide_page.Given as goal

abbrev pub invariant-loop-place : goal.invariant-loop-place
invariant-loop-place g l = record {
  room : length l.page.rows ≤ vec_capacity l.verdicts;
  len : vec_len l.verdicts ≡ l.place;
  page : IsPage l.filter l.tests;
  start : l.start ≡ before l.place l.page.rows;
  none : NoneCounts l.filter l.words l.start l.hit;
  decided : AreDecided l.context.names l.context.query (take l.place l.page.rows) l.verdicts.items;
}
