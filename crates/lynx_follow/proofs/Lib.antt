mod Comparings
mod Followings
