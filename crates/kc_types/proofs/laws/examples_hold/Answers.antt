use Rattle.std.proofs.Common.{refl}
use Rattle.kc_types.proofs.laws.examples_hold.Goals as goal

pub returns : goal.returns
returns c = record {
  common = refl;
  common_above = refl;
  common_beside = refl;
  walks = refl;
  at_iterable = refl;
  of_num = refl;
  star_keeps_bound = refl;
  in_keeps_bound = refl;
  beyond_bound = refl;
  on_the_way = refl;
  beyond_twice = refl;
  declared_out = refl;
  keeps_invariance = refl;
  takes_wider = refl;
  takes_narrower = refl;
  of_functions = refl;
  of_nullable = refl;
  null_is_no_any = refl;
  null_is_any_or_null = refl;
  two_marks = refl;
  one_mark = refl;
  deeper_in_bound = refl;
  keeps_written = refl;
  keeps_star = refl;
  below_no_list = refl;
  out_in_bound = refl;
  null_in_bound = refl;
  bound_leads = refl;
  bound_leads_to_list = refl;
  function_bound = refl;
  function_of_list = refl;
  function_of_itself = refl;
  function_of_bound = refl;
  function_takes_null = refl;
  function_gives_null = refl;
  function_of_lists = refl;
  function_of_sinks = refl;
  function_again = refl;
  against = refl;
  upwards = refl;
  downwards = refl;
  function_upwards = refl;
  view_inward = refl;
  view_outward = refl;
  view_of_nullable = refl;
  view_beside = refl;
  no_view_at_function = refl;
}
