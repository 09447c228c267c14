-- What passes under the limit of a form.
pub mod Fitting
